-- What the steps of the code answer and keep: building, fresh names, the names of nets, texts and nodes as they are kept, the search for an order, and faults.
pub mod Build
pub mod BuildView
pub mod OrderFound
pub mod OrderSearch
pub mod NetNames
pub mod Spans
pub mod TextsView
pub mod NodeListView
pub mod Fresh
pub mod FaultView

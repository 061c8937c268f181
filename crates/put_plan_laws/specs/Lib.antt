pub mod PutPlans

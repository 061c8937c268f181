pub mod Widths
pub mod StepLines
pub mod StepsView
pub mod StepLine
pub mod Printed
pub mod Tables
pub mod Batches
pub mod Examples

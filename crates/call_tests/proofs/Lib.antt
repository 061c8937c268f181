pub mod TestMachine

pub mod Reports

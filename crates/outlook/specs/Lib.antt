pub mod Answers
pub mod Reports
pub mod Outlook
pub mod Lines

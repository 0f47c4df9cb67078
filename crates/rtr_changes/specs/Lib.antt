-- `Changes` is the page to believe.
pub mod Changes

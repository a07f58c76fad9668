-- That the core, after the checks of either form, is publish.
pub mod Publishing

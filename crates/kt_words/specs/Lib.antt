pub mod Plain
pub mod Grammar
pub mod Word
pub mod Kind
pub mod Shell
pub mod auxiliary

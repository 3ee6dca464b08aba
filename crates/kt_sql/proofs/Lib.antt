pub mod CallLemmas
pub mod OpenLemmas
pub mod StopLemmas

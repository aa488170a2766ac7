pub mod MapLemmas
pub mod SeenLemmas
pub mod WrongLemmas

pub mod ByteLemmas
pub mod WrittenLemmas
pub mod LostLemmas
pub mod HeldLemmas
pub mod SeenLemmas

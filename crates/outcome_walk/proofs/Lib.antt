pub mod ValueLemmas
pub mod NumberLemmas
pub mod SpellLemmas
pub mod WalkLemmas
pub mod StepLemmas
pub mod CountLemmas

pub mod ToldLemmas
pub mod ApartLemmas
pub mod CountLemmas
pub mod FoundLemmas
pub mod EventLemmas
pub mod FileCountLemmas

pub mod FirstLemmas
pub mod RefusalLemmas
pub mod RunLemmas
pub mod UsedPageLemmas
pub mod UnarmedLemmas

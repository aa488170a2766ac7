mod LowestLemmas
mod SpanLemmas
mod RefusedLemmas

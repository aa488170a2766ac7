mod EventTextLemmas
mod FileTextLemmas
mod RangeTextLemmas
mod ReadLemmas
mod SpokenLemmas
mod TellLemmas

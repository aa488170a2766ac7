pub mod HandleRows

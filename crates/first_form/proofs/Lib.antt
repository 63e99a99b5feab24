pub mod ScopedLemmas

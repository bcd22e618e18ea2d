pub mod LawLemmas
pub mod NewLemmas
pub mod PieceLemmas
pub mod RootLemmas
pub mod VersionLemmas

mod LineLemmas
mod WriteLemmas

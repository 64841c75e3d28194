mod LatestLemmas
mod SeqLemmas
mod ValueLemmas
mod VerdictLemmas
mod FormLemmas
mod LineFaultLemmas
pub mod CheckLemmas
mod ExactLemmas
mod RefusalLemmas
mod ReadingLemmas
pub mod SinceLemmas

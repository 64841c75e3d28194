mod ChangesLemmas
mod InUseLemmas
mod PlacedLemmas
mod WavesLemmas

mod HeldLemmas
mod IntervalLemmas
mod SpreadLemmas

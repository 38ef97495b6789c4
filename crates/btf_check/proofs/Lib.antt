mod Comparisons
mod MarkLemmas
mod PairLemmas
mod ReasonLemmas
mod VerdictLemmas
mod Verdicts

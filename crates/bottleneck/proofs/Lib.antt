pub mod AnswerLemmas
pub mod HeavierLemmas
pub mod PairLemmas

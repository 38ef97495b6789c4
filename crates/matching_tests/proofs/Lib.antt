pub mod MatchingTypes

mod RowMarkLemmas

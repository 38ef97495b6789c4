mod PhaseLemmas

mod ExtendLemmas

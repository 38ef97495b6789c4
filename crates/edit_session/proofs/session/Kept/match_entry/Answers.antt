use Rattle.std.proofs.Common.{◌∙◌, ⊎_elim, ap, inl, inr, refl, subst, sym, true≢false}
use Rattle.bip_defs.specs.Lists.{Among}
use Rattle.bip_defs.specs.Matching.{cols_of, rows_of}
use Rattle.bip_defs.specs.Matrix.{IsTransposeOf, Matrix, Place, entry_count}
use Rattle.bip_defs.proofs.Sets.{col_among, row_among}
use Rattle.bip_defs.proofs.Transposed.{transpose_is}
use Rattle.bip_defs.proofs.Results.{some_found}
use Rattle.vertex_cover.specs.Back.{IsSearchedTo}
use Rattle.edit_session.proofs.SessionLemmas.{more_columns, none_found, paired_kept, set_but, shown_kept}
use Rattle.edit_session.proofs.TransposeLemmas.{transpose_count}
use Rattle.edit_session.proofs.session.Kept.match_entry.Goals as goal

pub returns-then-has-clause-kept : goal.returns-then-has-clause-kept
returns-then-has-clause-kept g c = shown_kept c.args.self.now.columns.matrix c.args.self.now.rows.matrix c.args.self.now.matching c.args.self.now.cover (c.has.ensures.all c.if-has.true c.args.self.now.columns.matrix c.requires.matching c.requires.cover) c.requires.rows

pub augment_to-requires-clause-turned : goal.augment_to-requires-clause-turned
augment_to-requires-clause-turned g c = record {
  transpose = subst (λ (b : Matrix). IsTransposeOf c.args.self.now.columns.matrix b) (sym c.requires.rows) (transpose_is c.args.self.now.columns.matrix);
  count = ap entry_count c.requires.rows ∙ transpose_count c.args.self.now.columns.matrix c.cols.ensures.pattern.columns;
}

pub augment_to-requires-clause-unmatched : goal.augment_to-requires-clause-unmatched
augment_to-requires-clause-unmatched g c = more_columns c.args.self.now.columns.matrix c.args.self.now.matching.pairs c.requires.matching.matching (λ e. c.if-size-cols.false (c.size-2.ensures.size ∙ e ∙ sym c.cols.ensures.count))

pub augment_to-requires-clause-cover : goal.augment_to-requires-clause-cover
augment_to-requires-clause-cover g c = (set_but c.args.self.now.columns.matrix (c.args.row, c.args.col) c.args.self.now.matching.pairs c.args.self.now.cover c.requires.cover).1

pub returns-then-row_is_free-clause-kept : goal.returns-then-row_is_free-clause-kept
returns-then-row_is_free-clause-kept g c = shown_kept c.args.self.now.columns.matrix c.args.self.now.rows.matrix c.augment_to.new.matching c.augment_to.new.self (c.augment_to.ensures.decided.but_one (c.args.row, c.args.col) c.requires.cover) c.requires.rows

pub returns-else-row_is_free-clause-kept : goal.returns-else-row_is_free-clause-kept
returns-else-row_is_free-clause-kept g c = shown_kept c.args.self.now.columns.matrix c.args.self.now.rows.matrix c.augment_over.new.matching c.augment_over.new.self c.augment_over.ensures.decided.has_cover c.requires.rows

pub augment_from-requires-clause-cover : goal.augment_from-requires-clause-cover
augment_from-requires-clause-cover g c = (set_but c.args.self.now.columns.matrix (c.args.row, c.args.col) c.args.self.now.matching.pairs c.args.self.now.cover c.requires.cover).0

pub returns-then-not-row_is_free-clause-kept : goal.returns-then-not-row_is_free-clause-kept
returns-then-not-row_is_free-clause-kept g c = shown_kept c.args.self.now.columns.matrix c.args.self.now.rows.matrix c.augment_from.new.matching c.augment_from.new.self (c.augment_from.ensures.decided.but_one (c.args.row, c.args.col) c.requires.cover) c.requires.rows

pub returns-clause-kept : goal.returns-clause-kept
returns-clause-kept g c = paired_kept c.args.self.now.columns.matrix c.args.self.now.rows.matrix (c.args.row, c.args.col) c.args.self.now.matching c.pair.new.self c.args.self.now.cover c.requires c.pair.ensures.added c.pair.ensures.size c.pair.ensures.sizes c.pair.ensures.pairing

pub augment_over-requires-clause-matched : goal.augment_over-requires-clause-matched
augment_over-requires-clause-matched g c = let (d, pair) = some_found (λ x. Among {X = Place} (c.args.row, x) c.args.self.now.matching.pairs) c.col_of.result c.if-row_is_free.ensures c.col_of.ensures.found in row_among c.args.row d c.args.self.now.matching.pairs pair

pub augment_over-requires-clause-uncovered : goal.augment_over-requires-clause-uncovered
augment_over-requires-clause-uncovered g c h = true≢false (sym (c.has.ensures.covered.1 (inr h)) ∙ c.if-has.false)

pub returns-then-has-clause-no_search : goal.returns-then-has-clause-no_search
returns-then-has-clause-no_search g c = λ h. refl

pub returns-then-size-rows-clause-no_search : goal.returns-then-size-rows-clause-no_search
returns-then-size-rows-clause-no_search g c = λ h. refl

pub returns-then-size-cols-clause-no_search : goal.returns-then-size-cols-clause-no_search
returns-then-size-cols-clause-no_search g c = λ h. refl

pub returns-then-row_is_free-clause-no_search : goal.returns-then-row_is_free-clause-no_search
returns-then-row_is_free-clause-no_search g c = λ h. absurd (⊎_elim (⊎_elim (λ e. c.if-size-rows.false (c.size.ensures.size ∙ e ∙ sym c.rows.ensures)) (λ e. c.if-size-cols.false (c.size-2.ensures.size ∙ e ∙ sym c.cols.ensures.count))) (λ covered. true≢false (sym (c.has.ensures.covered.1 covered) ∙ c.if-has.false)) h)

pub returns-else-row_is_free-clause-no_search : goal.returns-else-row_is_free-clause-no_search
returns-else-row_is_free-clause-no_search g c = λ h. absurd (⊎_elim (⊎_elim (λ e. c.if-size-rows.false (c.size.ensures.size ∙ e ∙ sym c.rows.ensures)) (λ e. c.if-size-cols.false (c.size-2.ensures.size ∙ e ∙ sym c.cols.ensures.count))) (λ covered. true≢false (sym (c.has.ensures.covered.1 covered) ∙ c.if-has.false)) h)

pub returns-then-not-row_is_free-clause-no_search : goal.returns-then-not-row_is_free-clause-no_search
returns-then-not-row_is_free-clause-no_search g c = λ h. absurd (⊎_elim (⊎_elim (λ e. c.if-size-rows.false (c.size.ensures.size ∙ e ∙ sym c.rows.ensures)) (λ e. c.if-size-cols.false (c.size-2.ensures.size ∙ e ∙ sym c.cols.ensures.count))) (λ covered. true≢false (sym (c.has.ensures.covered.1 covered) ∙ c.if-has.false)) h)

pub returns-clause-no_search : goal.returns-clause-no_search
returns-clause-no_search g c = λ h. absurd (⊎_elim (⊎_elim (λ e. c.if-size-rows.false (c.size.ensures.size ∙ e ∙ sym c.rows.ensures)) (λ e. c.if-size-cols.false (c.size-2.ensures.size ∙ e ∙ sym c.cols.ensures.count))) (λ covered. true≢false (sym (c.has.ensures.covered.1 covered) ∙ c.if-has.false)) h)

pub returns-then-has-clause-searched : goal.returns-then-has-clause-searched
returns-then-has-clause-searched g c unsettled = absurd (unsettled (inr (c.has.ensures.covered.0 c.if-has.true)))

pub returns-then-size-rows-clause-searched : goal.returns-then-size-rows-clause-searched
returns-then-size-rows-clause-searched g c unsettled = absurd (unsettled (inl (inl (sym c.size.ensures.size ∙ c.if-size-rows.true ∙ c.rows.ensures))))

pub returns-then-size-cols-clause-searched : goal.returns-then-size-cols-clause-searched
returns-then-size-cols-clause-searched g c unsettled = absurd (unsettled (inl (inr (sym c.size-2.ensures.size ∙ c.if-size-cols.true ∙ c.cols.ensures.count))))

pub returns-then-row_is_free-clause-searched : goal.returns-then-row_is_free-clause-searched
returns-then-row_is_free-clause-searched g c unsettled =
    let (s, pair) = some_found (λ r. Among {X = Place} (r, c.args.col) c.args.self.now.matching.pairs) c.row_of.result (sym c.is_some.ensures ∙ c.if-is_some.true) c.row_of.ensures.found in
    let out : ¬ Among c.args.row (rows_of c.args.self.now.matching.pairs) = none_found _ c.col_of.result c.if-row_is_free.ensures c.col_of.ensures.none in
    record {
      over = λ mated on. absurd (out on);
      to = λ mated free. subst (λ (b : Matrix). IsSearchedTo c.args.row c.args.self.now.columns.matrix b c.args.self.now.matching.pairs c.args.self.now.cover c.augment_to.new.matching.pairs c.augment_to.new.self c.args.steps.now c.augment_to.new.steps) c.requires.rows c.augment_to.ensures.searched;
      from = λ none on. absurd (none (col_among s c.args.col c.args.self.now.matching.pairs pair));
      paired = λ none free. absurd (none (col_among s c.args.col c.args.self.now.matching.pairs pair));
    }

pub returns-else-row_is_free-clause-searched : goal.returns-else-row_is_free-clause-searched
returns-else-row_is_free-clause-searched g c unsettled =
    let (s, pair) = some_found (λ r. Among {X = Place} (r, c.args.col) c.args.self.now.matching.pairs) c.row_of.result (sym c.is_some.ensures ∙ c.if-is_some.true) c.row_of.ensures.found in
    let (d, mate) = some_found (λ x. Among {X = Place} (c.args.row, x) c.args.self.now.matching.pairs) c.col_of.result c.if-row_is_free.ensures c.col_of.ensures.found in
    record {
      over = λ mated on. c.augment_over.ensures.searched;
      to = λ mated out. absurd (out (row_among c.args.row d c.args.self.now.matching.pairs mate));
      from = λ none on. absurd (none (col_among s c.args.col c.args.self.now.matching.pairs pair));
      paired = λ none out. absurd (none (col_among s c.args.col c.args.self.now.matching.pairs pair));
    }

pub returns-then-not-row_is_free-clause-searched : goal.returns-then-not-row_is_free-clause-searched
returns-then-not-row_is_free-clause-searched g c unsettled =
    let free : ¬ Among c.args.col (cols_of c.args.self.now.matching.pairs) = none_found _ c.row_of.result (sym c.is_some.ensures ∙ c.if-is_some.false) c.row_of.ensures.none in
    let (d, mate) = some_found (λ x. Among {X = Place} (c.args.row, x) c.args.self.now.matching.pairs) c.col_of.result c.if-not-row_is_free.ensures c.col_of.ensures.found in
    record {
      over = λ mated on. absurd (free mated);
      to = λ mated out. absurd (free mated);
      from = λ none on. c.augment_from.ensures.searched;
      paired = λ none out. absurd (out (row_among c.args.row d c.args.self.now.matching.pairs mate));
    }

pub returns-clause-searched : goal.returns-clause-searched
returns-clause-searched g c unsettled =
    let free : ¬ Among c.args.col (cols_of c.args.self.now.matching.pairs) = none_found _ c.row_of.result (sym c.is_some.ensures ∙ c.if-is_some.false) c.row_of.ensures.none in
    let out : ¬ Among c.args.row (rows_of c.args.self.now.matching.pairs) = none_found _ c.col_of.result c.if-not-row_is_free.ensures c.col_of.ensures.none in
    record {
      over = λ mated on. absurd (free mated);
      to = λ mated none. absurd (free mated);
      from = λ none on. absurd (out on);
      paired = λ none free. (c.pair.ensures.added, refl);
    }

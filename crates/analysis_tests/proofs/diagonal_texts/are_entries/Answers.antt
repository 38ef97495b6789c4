use Rattle.std.proofs.Common.{◌≡◌, ◌⊎◌, inl, inr, ◌<◌, ◌+◌, ℕ, List, [], ◌∷◌, ◌++◌, length, take, get_or, ap, sym, ◌∙◌, subst}
use Rattle.std.proofs.lemmas.List.{take_all, take_more}
use Rattle.bip_defs.specs.Lists.{Among}
use Rattle.bip_defs.specs.Matrix.{AreEntries, IsEntry, Matrix, Place}
use Rattle.bip_defs.proofs.Sets.{among_last}
use Rattle.analysis_tests.proofs.diagonal_texts.are_entries.Goals as goal

-- one more entry
more : (a : Matrix) (ps : List Place) (i : ℕ) (p : Place) → i < length ps → p ≡ get_or ps i p → AreEntries a (take i ps) → IsEntry a p.0 p.1 → AreEntries a (take (i + 1) ps)
more a ps i p inside is before here r c on =
    by (among_last (r, c) p (take i ps) (subst (λ (qs : List Place). Among (r, c) qs) (take_more ps i p inside ∙ ap (λ (q : Place). take i ps ++ q ∷ []) (sym is)) on))
  where
    by : Among (r, c) (take i ps) ⊎ ((r, c) ≡ p) → IsEntry a r c
    by (inl k) = before r c k
    by (inr e) = subst (λ (q : Place). IsEntry a q.0 q.1) (sym e) here

pub loop-pair-init : goal.loop-pair-init
loop-pair-init c r col on = elim on [ ]

pub loop-pair-preserved : goal.loop-pair-preserved
loop-pair-preserved c =
    more c.args.pattern.now c.args.pairs.now c.loop-pair.pair-index c.pair-item.result c.loop-pair-test.true c.pair-item.is c.loop-pair.invariant (c.has.ensures.0 c.if-not-has.false)

pub returns : goal.returns
returns c _ r col on = c.loop-pair.invariant r col (subst (λ (ps : List Place). Among (r, col) ps) (sym (take_all _ _ c.loop-pair-test.false)) on)

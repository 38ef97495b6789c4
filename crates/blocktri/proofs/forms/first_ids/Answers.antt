use Rattle.std.proofs.Common.{◌∙◌, ℕ, ◌∷◌, ◌++◌, [], List, ap, map, sym}
use Rattle.std.proofs.lemmas.List.{map-append}
use Rattle.bip_defs.specs.Matrix.{upto}
use Rattle.bip_defs.proofs.Sets.{upto_more}
use Rattle.blocktri.proofs.forms.first_ids.Goals as goal

pub loop-k-preserved : goal.loop-k-preserved
loop-k-preserved g c =
    let number = g.I.Id.number in
    let k = c.loop-k.k in
    let last = c.of.result in
    ap (map number) c.in_ok-push.ensures.items ∙ map-append number c.loop-k.ids.items (last ∷ []) ∙ ap (λ (ns : List ℕ). ns ++ number last ∷ []) c.loop-k.invariant ∙ ap (λ (n : ℕ). upto k ++ n ∷ []) c.of.ensures ∙ sym (upto_more k)

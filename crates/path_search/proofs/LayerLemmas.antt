-- Columns in layers.
use Rattle.std.proofs.Common.{◌≡◌, ◌⊎◌, ◌∙◌, ℕ, ◌<◌, [], length, sym, ap, subst, ⊎_elim}
use Rattle.bip_defs.specs.Lists.{Among}
use Rattle.path_search.specs.Layers.{AreLayers, LayersState}

pub cleared : (n : ℕ) (old new : LayersState) → AreLayers n old → length new.numbers ≡ length old.numbers → length new.places ≡ length old.places → new.layer ≡ old.layer → new.next ≡ [] → AreLayers n new
cleared n old new k numbers places layer next = record {
  numbers = numbers ∙ k.numbers;
  places = places ∙ k.places;
  layer = λ c h. k.layer c (subst (λ xs. Among c xs) layer h);
  next = λ c h. absurd (subst (λ xs. Among c xs) next h);
}

-- a column is put into a layer
pub put_layers : (n c : ℕ) (old new : LayersState) → AreLayers n old → c < n → length new.numbers ≡ length old.numbers → new.places ≡ old.places → new.layer ≡ old.layer → ((d : ℕ) → Among d new.next → Among d old.next ⊎ (d ≡ c)) → AreLayers n new
put_layers n c old new k lt numbers places layer next = record {
  numbers = numbers ∙ k.numbers;
  places = ap length places ∙ k.places;
  layer = λ d h. k.layer d (subst (λ xs. Among d xs) layer h);
  next = λ d h. ⊎_elim (λ g. k.next d g) (λ (e : d ≡ c). subst (λ x. x < n) (sym e) lt) (next d h);
}

pub advanced : (n : ℕ) (old new : LayersState) → AreLayers n old → new ≡ record old { layer = old.next; next = [] } → AreLayers n new
advanced n old new k same = subst (λ (x : LayersState). AreLayers n x) (sym same) (record { numbers = k.numbers; places = k.places; layer = k.next; next = λ c h. absurd h })

pub numbered : (n : ℕ) (old new : LayersState) → AreLayers n old → new ≡ record old { numbers = new.numbers } → length new.numbers ≡ length old.numbers → AreLayers n new
numbered n old new k same numbers = subst (λ (x : LayersState). AreLayers n x) (sym same) (record { numbers = numbers ∙ k.numbers; places = k.places; layer = k.layer; next = k.next })

pub placed : (n : ℕ) (old new : LayersState) → AreLayers n old → new ≡ record old { places = new.places } → length new.places ≡ length old.places → AreLayers n new
placed n old new k same places = subst (λ (x : LayersState). AreLayers n x) (sym same) (record { numbers = k.numbers; places = places ∙ k.places; layer = k.layer; next = k.next })

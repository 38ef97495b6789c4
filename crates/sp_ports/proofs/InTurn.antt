-- What a sink takes in one call after another.
use Rattle.std.proofs.Common.{◌≡◌, ℕ, List, ◌++◌, length, take, Option, None, Some, append_assoc, refl, sym, ap, ◌∙◌, arith}
use Rattle.std.proofs.lemmas.List.{take-append-drop}
use Rattle.std.proofs.lemmas.Slice.{between_to_end}
use Rattle.std.specs.List.{between}
use Rattle.sp_ports.specs.Bytes.{Takes}
use Rattle.sp_ports.specs.Device.{Device, IsNext, Took, TookPrefix, both}

takes_both : (old mid new : Option (List ℕ)) (first second : List ℕ)
    → Takes old mid first → Takes mid new second → Takes old new (first ++ second)
takes_both old mid None first second one two = tt
takes_both old None (Some taken) first second one two = absurd two
takes_both None (Some before) (Some taken) first second one two = absurd one
takes_both (Some start) (Some before) (Some taken) first second one two = rw (two, one, append_assoc) refl

pub took_both : (d e : Device) (first second : List ℕ)
    → IsNext d e → Took d first → Took e second → Took (both d e) (first ++ second)
took_both d e first second next one two = record {
  bytes = takes_both d.before d.after e.after first second one.bytes (rw (← next.0) two.bytes);
  steady = two.steady ∙ next.1 ∙ one.steady;
}

pub took_prefix : (d e : Device) (first text : List ℕ)
    → IsNext d e → Took d first → TookPrefix e text → TookPrefix (both d e) (first ++ text)
took_prefix d e first text next one two =
    let (prefix, rest, is, takes) = two.bytes in
    record {
      bytes = (
        first ++ prefix,
        rest,
        ap (λ (t : List ℕ). first ++ t) is ∙ sym (append_assoc first prefix rest),
        takes_both d.before d.after e.after first prefix one.bytes (rw (← next.0) takes),
      );
      counts = omega (arith, two.counts, next.1, one.steady);
      fault = rw (← (next.1 ∙ one.steady)) two.fault;
    }

-- the prefix and the rest
pub split_at : (k : ℕ) (xs : List ℕ) → xs ≡ take k xs ++ between k (length xs) xs
split_at k xs =
    sym (take-append-drop k xs) ∙ ap (λ (r : List ℕ). take k xs ++ r) (sym (between_to_end xs k (length xs) (omega arith)))

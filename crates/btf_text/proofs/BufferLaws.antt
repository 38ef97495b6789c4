-- How a text goes through a buffer to its sink.
use Rattle.std.proofs.Common.{OnOk, OnErr, Result, Ok, Err, ◌≡◌, ℕ, Bool, true, false, List, [], ◌++◌, Option, None, Some, append_assoc, append-nil, refl, sym, ap, ◌∙◌, subst}
use Rattle.sp_ports.specs.Bytes.{Takes, TakesPrefix}
use Rattle.sp_ports.specs.Device.{Device, Took, TookPrefix, Writes}
use Rattle.btf_text.specs.Buffered.{Appends, Buffered, HasTaken, Stands, since}

-- the same text
stands_as : (d : Device) (buf : Buffered) (text other : List ℕ) → text ≡ other → Stands d buf text → Stands d buf other
stands_as d buf text other e p = subst (λ (t : List ℕ). Stands d buf t) e p

-- a write has failed before: nothing more is written
pub failed_before : (d : Device) (text bytes : List ℕ) (failed : Bool) → failed ≡ true
    → Stands d (record { bytes = bytes; failed = failed }) text → Stands d (record { bytes = []; failed = true }) (text ++ [])
failed_before d text bytes failed e p =
    let prefix : TookPrefix d text = subst (λ (b : Bool). HasTaken d text bytes b) e p.taken in
    stands_as d (record { bytes = []; failed = true }) text (text ++ []) (sym (append-nil text)) (record { taken = prefix })

-- all that was kept was handed on
pub handed_on : {t0 t1 t2 : Option (List ℕ)} {f0 f1 f2 : ℕ} (text bytes : List ℕ) (failed : Bool) → failed ≡ false
    → ((piece : List ℕ) → Took (since t0 f0 t1 f1) piece → Took (since t0 f0 t2 f2) (piece ++ bytes))
    → Stands (since t0 f0 t1 f1) (record { bytes = bytes; failed = failed }) text
    → Stands (since t0 f0 t2 f2) (record { bytes = []; failed = false }) (text ++ [])
handed_on {t0 = t0} {t1 = t1} {f0 = f0} {f1 = f1} text bytes failed not_failed then p =
    let (piece, is, took) : HasTaken (since t0 f0 t1 f1) text bytes false = subst (λ (b : Bool). HasTaken (since t0 f0 t1 f1) text bytes b) not_failed p.taken in
    record { taken = (piece ++ bytes, ap (λ (t : List ℕ). t ++ []) is, then piece took) }

-- a prefix of what was kept was handed on, and then a write failed
pub prefix_passed : {t0 t1 t2 : Option (List ℕ)} {f0 f1 f2 : ℕ} (text bytes : List ℕ) (failed : Bool) → failed ≡ false
    → ((piece : List ℕ) → Took (since t0 f0 t1 f1) piece → TookPrefix (since t0 f0 t2 f2) (piece ++ bytes))
    → Stands (since t0 f0 t1 f1) (record { bytes = bytes; failed = failed }) text
    → Stands (since t0 f0 t2 f2) (record { bytes = []; failed = true }) (text ++ [])
prefix_passed {t0 = t0} {t1 = t1} {t2 = t2} {f0 = f0} {f1 = f1} {f2 = f2} text bytes failed not_failed then p =
    let (piece, is, took) : HasTaken (since t0 f0 t1 f1) text bytes false = subst (λ (b : Bool). HasTaken (since t0 f0 t1 f1) text bytes b) not_failed p.taken in
    record { taken = subst (λ (t : List ℕ). TookPrefix (since t0 f0 t2 f2) t) (sym is ∙ sym (append-nil text)) (then piece took) }

taken_more : (failed : Bool) (d : Device) (text kept more : List ℕ)
    → HasTaken d text kept failed → HasTaken d (text ++ more) (kept ++ more) failed
taken_more false d text kept more h =
    (h.0, ap (λ (t : List ℕ). t ++ more) h.1 ∙ append_assoc h.0 kept more, h.2)
taken_more true d text kept more h =
    let (prefix, rest, is, takes) : TakesPrefix d.before d.after text = h.bytes in record {
      bytes = (prefix, rest ++ more, ap (λ (t : List ℕ). t ++ more) is ∙ append_assoc prefix rest more, takes);
      counts = h.counts;
      fault = h.fault;
    }

-- what is kept goes on with the text
stands_more : (d : Device) (text more : List ℕ) (buf after : Buffered)
    → Stands d buf text → after.bytes ≡ buf.bytes ++ more → after.failed ≡ buf.failed
    → Stands d after (text ++ more)
stands_more d text more buf after p bytes failed = record {
  taken = rw (bytes, failed) (taken_more buf.failed d text buf.bytes more p.taken);
}

-- some bytes, and then more that are kept
pub appends_kept : {t0 t1 : Option (List ℕ)} {f0 f1 : ℕ} {buf room : Buffered} (after : Buffered) (first more : List ℕ)
    → Appends (since t0 f0 t1 f1) buf room first → after.bytes ≡ room.bytes ++ more → after.failed ≡ room.failed
    → Appends (since t0 f0 t1 f1) buf after (first ++ more)
appends_kept {t1 = t1} {f1 = f1} {room = room} after first more made bytes failed taken faults text p =
    stands_as (since taken faults t1 f1) after _ _ (append_assoc text first more)
    (stands_more (since taken faults t1 f1) (text ++ first) more room after (made taken faults text p) bytes failed)

-- one piece after the other
pub appends_then : {t0 t1 t2 : Option (List ℕ)} {f0 f1 f2 : ℕ} {buf mid after : Buffered} (first second : List ℕ)
    → Appends (since t0 f0 t1 f1) buf mid first → Appends (since t1 f1 t2 f2) mid after second
    → Appends (since t0 f0 t2 f2) buf after (first ++ second)
appends_then {t2 = t2} {f2 = f2} {after = after} first second one two taken faults text p =
    stands_as (since taken faults t2 f2) after _ _ (append_assoc text first second)
    (two taken faults (text ++ first) (one taken faults text p))

-- the same bytes
pub appends_as : {t0 t1 : Option (List ℕ)} {f0 f1 : ℕ} {buf after : Buffered} (first second : List ℕ)
    → first ≡ second → Appends (since t0 f0 t1 f1) buf after first → Appends (since t0 f0 t1 f1) buf after second
appends_as {t0 = t0} {t1 = t1} {f0 = f0} {f1 = f1} {buf = buf} {after = after} first second e p =
    subst (λ (t : List ℕ). Appends (since t0 f0 t1 f1) buf after t) e p

-- nothing yet
pub appends_none : (taken : Option (List ℕ)) (faults : ℕ) (buf : Buffered) → Appends (since taken faults taken faults) buf buf []
appends_none now faults_now buf taken faults text p =
    stands_as (since taken faults now faults_now) buf text (text ++ []) (sym (append-nil text)) p

takes_nothing : (taken : Option (List ℕ)) → Takes taken taken []
takes_nothing None = tt
takes_nothing (Some bytes) = sym (append-nil bytes)

-- bytes that begin a text
pub begun : {t0 t1 : Option (List ℕ)} {f0 f1 : ℕ} {buf after : Buffered} {bytes : List ℕ}
    → buf ≡ record { bytes = []; failed = false } → Appends (since t0 f0 t1 f1) buf after bytes
    → Stands (since t0 f0 t1 f1) after bytes
begun {t0 = t0} {f0 = f0} fresh p =
    p t0 f0 []
    (subst (λ (b : Buffered). Stands (since t0 f0 t0 f0) b []) (sym fresh)
    (record { taken = ([], refl, record { bytes = takes_nothing t0; steady = refl }) }))

-- nothing is kept: the text was written, or a prefix of it
pub ends : {T E : Type 0} (d : Device) (text : List ℕ) (buf : Buffered) (result : Result T E)
    → Stands d buf (text ++ []) → buf.bytes ≡ [] → OnOk result (buf.failed ≡ false) → OnErr result (buf.failed ≡ true)
    → Writes d text result
ends d text buf (Ok v) given empty ok err =
    let (piece, is, took) : HasTaken d text buf.bytes false = subst (λ (b : Bool). HasTaken d text buf.bytes b) ok (stands_as d buf (text ++ []) text (append-nil text) given).taken in
    subst (λ (t : List ℕ). Took d t) (sym (is ∙ ap (λ (t : List ℕ). piece ++ t) empty ∙ append-nil piece)) took
ends d text buf (Err e) given empty ok err =
    subst (λ (b : Bool). HasTaken d text buf.bytes b) err (stands_as d buf (text ++ []) text (append-nil text) given).taken

-- The steps of reading a batch: what is answered to the bytes of a header, of a file, and of all of them.
use Rattle.std.proofs.Common.{◌≡◌, ◌≢◌, ℕ, ◌+◌, ◌<◌, Bool, true, false, nat_lt, List, [], ◌∷◌, ◌++◌, length, refl, sym, ap, subst, ◌∙◌, arith, ne_eqb, lt-ltb, Option, Some, None, Ok, Err, inl, inr}
use Rattle.std.proofs.lemmas.List.{drop_all}
use Rattle.sp_ports.specs.Bytes.{Gives}
use Rattle.sp_ports.specs.Device.{Device}
use Rattle.mm_defs.specs.declared.answers.ReadError.{ReadError}
use Rattle.mm_defs.specs.declared.answers.ReadError.TheVariants as read_errors
use Rattle.mm_defs.specs.declared.kinds.Kind.{Kind}
use Rattle.mm_defs.specs.declared.kinds.Kind.TheVariants.{ShortFile}
use Rattle.mm_defs.specs.Words.{has_bytes, is_lf, words}
use Rattle.mm_defs.specs.Faults.{first_kind}
use Rattle.mm_reader.specs.Fronts.{Front, IsOver, Stops, UsesByte}
use Rattle.mm_lines.specs.KeptLines.{KeptLine}
use Rattle.mm_lines.specs.Lines.{IsLine}
use Rattle.mm_frames.specs.declared.batch.BatchError.{BatchError}
use Rattle.mm_frames.specs.declared.batch.BatchError.TheVariants as errors
use Rattle.mm_frames.specs.declared.header.FrameHeader.{FrameHeader}
use Rattle.mm_frames.specs.Batches.{BatchFault, bad_frame_from, behind_frame, behind_header, file_bytes, frame_kind, has_lf, header_rules, header_words}
use Rattle.mm_frames.specs.Frames.{AnswersFile, AnswersHeader, BeginsLine, HeaderIs, HeaderIsBad, IsGoodHeader, IsSameStop, RefusesUsed, UsesSuch}
use Rattle.mm_frames.specs.Stages.{HasUsed}
use Rattle.mm_frames.proofs.BatchLaws.{from_frame, none_from}
use Rattle.mm_frames.proofs.FrameLaws.{behind-all, behind-lf, first_line-all, first_line-lf, frame_good, has_lf-lf}
use Rattle.mm_frames.proofs.UsedLaws.{one_more, over_used, rose_since, stopped_used}
use Rattle.mm_defs.proofs.Rules.{first_none, first_some}

-- ---- a header

some_after : (line more : List ℕ) → line ++ 10 ∷ more ≢ []
some_after [] more e = absurd cc
some_after (b ∷ line) more e = absurd cc

nothing_behind : (n : ℕ) (bytes : List ℕ) → behind_header bytes ≡ [] → file_bytes (header_words bytes) ≡ n → behind_frame bytes ≡ []
nothing_behind n bytes none e = rw none (drop_all (file_bytes (header_words bytes)) [] (omega arith))

-- a header that has not ended
pub open_header : (before : ℕ) (bytes : List ℕ) → has_lf bytes ≡ false → bad_frame_from false before bytes ≡ None
open_header before [] h = none_from false before
open_header before (b ∷ bytes) h =
    let n = behind-all (b ∷ bytes) h in
    let r : behind_frame (b ∷ bytes) ≡ [] = nothing_behind (file_bytes (header_words (b ∷ bytes))) (b ∷ bytes) n refl in
    let k : frame_kind false before (b ∷ bytes) ≡ None = rw h refl in
    from_frame false before (b ∷ bytes) (λ e. absurd cc) ∙ rw (k, r) (none_from false (before + 1))

-- a header to which a kind applies
pub bad_line : (before : ℕ) (line : List ℕ) (kind : Kind) → has_lf line ≡ false → first_kind (header_rules before (words line)) ≡ Some kind
    → bad_frame_from false before (line ++ 10 ∷ []) ≡ Some (record { file = before + 1; kind = kind })
bad_line before line kind h bad =
    let w = first_line-lf line [] h in
    let lf = has_lf-lf line [] in
    let g : first_kind (header_rules before (header_words (line ++ 10 ∷ []))) ≡ Some kind = rw w bad in
    let k : frame_kind false before (line ++ 10 ∷ []) ≡ Some kind = rw lf (first_some (header_rules before (header_words (line ++ 10 ∷ []))) ((ShortFile, false) ∷ []) kind g) in
    from_frame false before (line ++ 10 ∷ []) (some_after line []) ∙ rw k refl

pub bad_last : (before : ℕ) (line : List ℕ) (kind : Kind) → line ≢ [] → has_lf line ≡ false → first_kind (header_rules before (words line)) ≡ Some kind
    → bad_frame_from true before line ≡ Some (record { file = before + 1; kind = kind })
bad_last before line kind some h bad =
    let w = first_line-all line h in
    let g : first_kind (header_rules before (header_words line)) ≡ Some kind = rw w bad in
    let k : frame_kind true before line ≡ Some kind = first_some (header_rules before (header_words line)) ((ShortFile, nat_lt (length (behind_header line)) (file_bytes (header_words line))) ∷ []) kind g in
    from_frame true before line some ∙ rw k refl

-- ---- a file

-- a frame that is too short, where the input ended
short_kind : (before : ℕ) (bytes : List ℕ) → first_kind (header_rules before (header_words bytes)) ≡ None → length (behind_header bytes) < file_bytes (header_words bytes) → frame_kind true before bytes ≡ Some ShortFile
short_kind before bytes good short =
    let s = lt-ltb (length (behind_header bytes)) (file_bytes (header_words bytes)) short in
    first_none (header_rules before (header_words bytes)) ((ShortFile, nat_lt (length (behind_header bytes)) (file_bytes (header_words bytes))) ∷ []) good ∙ rw s refl

module _ (before : ℕ) (line : List ℕ) (n : ℕ) (h : IsGoodHeader before line n) where
  module _ (used : List ℕ) (short : length used < n) where
    here-words : header_words (line ++ 10 ∷ used) ≡ words line
    here-words = ap words (first_line-lf line used h.one_line)

    here-behind : behind_header (line ++ 10 ∷ used) ≡ used
    here-behind = behind-lf line used h.one_line

    here-good : first_kind (header_rules before (header_words (line ++ 10 ∷ used))) ≡ None
    here-good = let w = here-words in rw w h.good

    pub open_file : bad_frame_from false before (line ++ 10 ∷ used) ≡ None
    open_file =
        let w = here-words in
        let b = here-behind in
        let k : frame_kind false before (line ++ 10 ∷ used) ≡ None = frame_good false before (line ++ 10 ∷ used) here-good (λ e. absurd cc) in
        let r : behind_frame (line ++ 10 ∷ used) ≡ [] = rw (w, b) (drop_all (file_bytes (words line)) used (omega (arith, h.bytes_are))) in
        from_frame false before (line ++ 10 ∷ used) (some_after line used) ∙ rw (k, r) (none_from false (before + 1))

    pub short_file : bad_frame_from true before (line ++ 10 ∷ used) ≡ Some (record { file = before + 1; kind = ShortFile })
    short_file =
        let w = here-words in
        let b = here-behind in
        let s : length (behind_header (line ++ 10 ∷ used)) < file_bytes (header_words (line ++ 10 ∷ used)) = rw (w, b) (omega (arith, h.bytes_are)) in
        let k = short_kind before (line ++ 10 ∷ used) here-good s in
        from_frame true before (line ++ 10 ∷ used) (some_after line used) ∙ rw k refl

  pub short_last : line ≢ [] → 0 < n → bad_frame_from true before line ≡ Some (record { file = before + 1; kind = ShortFile })
  short_last some short =
      let w = first_line-all line h.one_line in
      let b = behind-all line h.one_line in
      let g : first_kind (header_rules before (header_words line)) ≡ None = rw w h.good in
      let s : length (behind_header line) < file_bytes (header_words line) = rw (w, b) (omega (arith, h.bytes_are)) in
      let k = short_kind before line g s in
      from_frame true before line some ∙ rw k refl

-- ---- answers

module _ (f0 f f2 : Front) (old now now2 : Option (List ℕ)) (fb fm fa : ℕ) (steady : fm ≡ fb) where
  abbrev device : Device
  device = record { before = now; after = now2; failed_before = fm; failed_after = fa }

  abbrev source : Device
  source = record { before = old; after = now2; failed_before = fb; failed_after = fa }

  -- no byte was given, and no frame is bad so far
  pub stop_refused : (bad : Bool → Option BatchFault) → bad false ≡ None → (gave : List ℕ) → Gives old now gave → (error : ReadError) (e : BatchError) → Stops f f2 device error → IsSameStop error e → RefusesUsed bad f2 source e
  stop_refused bad none gave g (read_errors.Malformed line kind) e p same = absurd p
  stop_refused bad none gave g (read_errors.Limit line kind) e p same = absurd p
  stop_refused bad none gave g read_errors.TooLong e p same = subst (RefusesUsed bad f2 source) (sym same) (none, p.one_past, p.room_is ∙ p.no_room)
  stop_refused bad none gave g read_errors.ReadFault e p same = subst (RefusesUsed bad f2 source) (sym same) (none, p.none, rw (← steady) (rose_since old now gave fm fa g p.fault))
  stop_refused bad none gave g read_errors.OutOfMemory e p same = absurd p

  -- ---- of a header

  module _ (before : ℕ) (l : KeptLine) (begun : Bool) (h : BeginsLine f0 f old now l begun) where
    pub header_stopped : (error : ReadError) (e : BatchError) → Stops f f2 device error → IsSameStop error e → UsesSuch f0 f2 source (AnswersHeader before f2 source (Err e))
    header_stopped error e p same = record {
      used = h.used;
      so_far = stopped_used f0 f f2 old now now2 fm fa h.used h.so_far error p;
      such = stop_refused (λ ended. bad_frame_from ended before h.used) (open_header before h.used h.one_line) h.so_far.gave h.so_far.given error e p same;
    }

    pub last_refused : begun ≡ true → IsOver f f2 device → (e : BatchError) → HeaderIsBad before (words h.used) e → UsesSuch f0 f2 source (AnswersHeader before f2 source (Err e))
    last_refused begins p e bad = record { used = h.used; so_far = over_used f0 f f2 old now now2 fm fa h.used h.so_far p; such = by e bad }
      where
        some : h.used ≢ []
        some none = let b = h.begun_is in let n = rw (none, begins) at b in absurd cc

        here : (kind : Kind) → first_kind (header_rules before (words h.used)) ≡ Some kind → bad_frame_from true before h.used ≡ Some (record { file = before + 1; kind = kind })
        here kind k = bad_last before h.used kind some h.one_line k

        by : (e : BatchError) → HeaderIsBad before (words h.used) e → RefusesUsed (λ ended. bad_frame_from ended before h.used) f2 source e
        by (errors.Malformed file kind) k = (inr (rw k.1 (here kind k.0), record { none = p.none; over = p.over; steady = p.steady ∙ steady }), k.2)
        by (errors.Limit file kind) k = (inr (rw k.1 (here kind k.0), record { none = p.none; over = p.over; steady = p.steady ∙ steady }), k.2)
        by errors.TooLong k = absurd k
        by errors.ReadFault k = absurd k
        by errors.OutOfMemory k = tt

    module _ (b : ℕ) (u : UsesByte f f2 device b) where
      pub line_refused : b ≡ 10 → (e : BatchError) → HeaderIsBad before (words h.used) e → UsesSuch f0 f2 source (AnswersHeader before f2 source (Err e))
      line_refused lf e bad = record { used = h.used ++ b ∷ []; so_far = one_more f0 f f2 old now now2 fm fa h.used h.so_far b u; such = rw lf (by e bad) }
        where
          here : (kind : Kind) → first_kind (header_rules before (words h.used)) ≡ Some kind → bad_frame_from false before (h.used ++ 10 ∷ []) ≡ Some (record { file = before + 1; kind = kind })
          here kind k = bad_line before h.used kind h.one_line k

          by : (e : BatchError) → HeaderIsBad before (words h.used) e → RefusesUsed (λ ended. bad_frame_from ended before (h.used ++ 10 ∷ [])) f2 source e
          by (errors.Malformed file kind) k = (inl (rw k.1 (here kind k.0)), k.2)
          by (errors.Limit file kind) k = (inl (rw k.1 (here kind k.0)), k.2)
          by errors.TooLong k = absurd k
          by errors.ReadFault k = absurd k
          by errors.OutOfMemory k = tt

      pub line_taken : b ≡ 10 → (header : FrameHeader) → HeaderIs before false (words h.used) (Ok header) → UsesSuch f0 f2 source (AnswersHeader before f2 source (Ok (Some header)))
      line_taken lf header k = record {
        used = h.used ++ b ∷ [];
        so_far = one_more f0 f f2 old now now2 fm fa h.used h.so_far b u;
        such = record {
          line = h.used;
          good = record { one_line = h.one_line; good = k.0; bytes_are = k.1 };
          has_ended = rw (k.2, lf) refl;
        };
      }

      pub line_goes_on : (l2 : KeptLine) → b ≢ 10 → IsLine l2 (h.used ++ b ∷ []) → BeginsLine f0 f2 old now2 l2 true
      line_goes_on l2 other is = record {
        used = h.used ++ b ∷ [];
        so_far = one_more f0 f f2 old now now2 fm fa h.used h.so_far b u;
        one_line = no_lf h.used h.one_line;
        line_is = is;
        begun_is = some h.used;
      }
        where
          no_lf : (xs : List ℕ) → has_lf xs ≡ false → has_lf (xs ++ b ∷ []) ≡ false
          no_lf [] e = let n : is_lf b ≡ false = ne_eqb b 10 other in rw n refl
          no_lf (x ∷ xs) e = by (is_lf x) refl (no_lf xs)
            where
              by : (y : Bool) → is_lf x ≡ y → (has_lf xs ≡ false → has_lf (xs ++ b ∷ []) ≡ false) → has_lf (x ∷ xs ++ b ∷ []) ≡ false
              by true k ih = let n = rw k at e in absurd cc
              by false k ih = rw k (ih (rw k at e))

          some : (xs : List ℕ) → true ≡ has_bytes (xs ++ b ∷ [])
          some [] = refl
          some (x ∷ xs) = refl

  -- ---- of a file

  module _ (before n : ℕ) (used line : List ℕ) (h : HasUsed f0 f old now used) (good : IsGoodHeader before line n) (short : length used < n) where
    pub file_stopped : (error : ReadError) (e : BatchError) → Stops f f2 device error → IsSameStop error e → UsesSuch f0 f2 source (AnswersFile before line n f2 source (Err e))
    file_stopped error e p same = record {
      used = used;
      so_far = stopped_used f0 f f2 old now now2 fm fa used h error p;
      such = stop_refused (λ ended. bad_frame_from ended before (line ++ 10 ∷ used)) (open_file before line n good used short) h.gave h.given error e p same;
    }

    pub file_short : IsOver f f2 device → UsesSuch f0 f2 source (AnswersFile before line n f2 source (Err (errors.Malformed (before + 1) ShortFile)))
    file_short p = record {
      used = used;
      so_far = over_used f0 f f2 old now now2 fm fa used h p;
      such = (inr (short_file before line n good used short, record { none = p.none; over = p.over; steady = p.steady ∙ steady }), refl);
    }

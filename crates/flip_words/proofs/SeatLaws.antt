-- What is told of the seats of a board.
use Rattle.std.proofs.Common.{◌≡◌, ◌∙◌, ℕ, ◌+◌, ◌<◌, List, ◌++◌, None, Some, flat_map, sym, ap, subst, arith}
use Rattle.std.proofs.lemmas.List.{get_or-append-add}
use Rattle.std.proofs.Math.ListN.{get_or-append}
use Rattle.std.proofs.lemmas.Option.{same_Some}
use Rattle.bip_defs.specs.Lists.{Among, option_at}
use Rattle.bip_defs.specs.Occurrences.{times}
use Rattle.bip_defs.specs.WordValues.{held}
use Rattle.bip_graph.specs.Mates.{Mated}
use Rattle.flip_words.specs.Accounts.{is_held}
use Rattle.flip_words.specs.Board.{Board, col_vertex}
use Rattle.flip_words.specs.ClosedBoards.{AreMatesAfter, HaveOneTakerEach, SettlesAll}
use Rattle.flip_words.specs.Listed.{Listed}
use Rattle.flip_words.specs.Seat.{HasSeen, HasSet, HasSetTo, HoldsAllSeats, Seat, Took, lists_of}
use Rattle.board_seats.proofs.Flat.{times_none, times_one}
use Rattle.board_seats.proofs.Numbered.{of_all, of_one, one_of_all}

-- What the close tells.

module _ (b : Board) (m : Mated) (ss : List Seat) (all : SettlesAll b m ss) where
  taker_is : (s : Seat) (root : ℕ) → Among s ss → Took s root → held all.takers root ≡ Some s.number
  taker_is s root h took = all.settles.takes.stands root s.number (of_all (λ (l : Listed). l.taken) ss s (root, s.number) h took)

  one_taker : HoldsAllSeats b ss → (s t : Seat) (root : ℕ) → Among s ss → Among t ss → Took s root → Took t root → s ≡ t
  one_taker a s t root h k p q = one_of_all ss s t a h k (same_Some _ _ (sym (taker_is s root h p) ∙ taker_is t root k q))

  one_setter : HoldsAllSeats b ss → (s t : Seat) (vertex : ℕ) → Among s ss → Among t ss → HasSet s vertex → HasSet t vertex → s ≡ t
  one_setter a s t vertex h k p q =
      let mine = (all.rightful s h).sets vertex p.0 p.1 in
      let theirs = (all.rightful t k).sets vertex q.0 q.1 in
      let same : theirs.0 ≡ mine.0 = same_Some _ _ (sym theirs.1 ∙ ap (λ (d : Board). held d.trees vertex) (a.boards t k ∙ sym (a.boards s h)) ∙ mine.1) in
      one_taker a s t mine.0 h k mine.2 (subst (Took t) same theirs.2)

  seen_taker : (s : Seat) (root number : ℕ) → Among s ss → HasSeen s root number → (t : Seat) × Among t ss × Took t root × (t.number ≡ number)
  seen_taker s root number h seen =
      let stands = all.settles.seen root number (of_all (λ (l : Listed). l.seen) ss s (root, number) h seen) in
      let some : 0 < times root (flat_map (λ (l : Listed). l.taken) (lists_of ss)) = subst (λ n. 0 < n) (sym (all.settles.takes.once root ∙ ap is_held stands)) (omega arith) in
      let entry = times_one root (flat_map (λ (l : Listed). l.taken) (lists_of ss)) some in
      let taker = of_one (λ (l : Listed). l.taken) ss (root, entry.0) entry.1 in
      let own = (all.rightful taker.0 taker.1).taken root entry.0 taker.2 in
      let same : entry.0 ≡ number = same_Some _ _ (sym (all.settles.takes.stands root entry.0 entry.1) ∙ stands) in
      (taker.0, taker.1, subst (λ n. Among (root, n) taker.0.listed.taken) own taker.2, sym own ∙ same)

  pub one_taker_each : HoldsAllSeats b ss → HaveOneTakerEach ss
  one_taker_each a = record { taken = one_taker a; set = one_setter a; seen = seen_taker }

  row_held : (r : ℕ) → r < b.rows → held (m.rows ++ m.cols) r ≡ option_at m.rows r
  row_held r lt = get_or-append m.rows m.cols None r (subst (λ n. r < n) (sym all.rows) lt)

  col_held : (c : ℕ) → held (m.rows ++ m.cols) (col_vertex b c) ≡ option_at m.cols c
  col_held c = ap (λ n. held (m.rows ++ m.cols) (n + c)) (sym all.rows) ∙ get_or-append-add m.rows m.cols c None

  set_held : (s : Seat) (vertex mate : ℕ) → Among s ss → HasSetTo s vertex mate → held (m.rows ++ m.cols) vertex ≡ Some mate
  set_held s vertex mate h set = all.settles.sets.stands vertex mate (of_all (λ (l : Listed). l.sets) ss s (vertex, mate) h set)

  unset_held : (vertex : ℕ) → ((s : Seat) → Among s ss → ¬ HasSet s vertex) → held (m.rows ++ m.cols) vertex ≡ held b.mates vertex
  unset_held vertex unset = all.settles.sets.stays vertex (times_none vertex (flat_map (λ (l : Listed). l.sets) (lists_of ss)) (λ x h. let s = of_one (λ (l : Listed). l.sets) ss (vertex, x) h in unset s.0 s.1 (x, s.2)))

  pub mates_after : AreMatesAfter b ss m
  mates_after = record {
    row_set = λ s r c h lt set. sym (row_held r lt) ∙ set_held s r c h set;
    col_set = λ s r c h set. sym (col_held c) ∙ set_held s (col_vertex b c) r h set;
    row_unset = λ r lt unset. sym (row_held r lt) ∙ unset_held r unset;
    col_unset = λ c unset. sym (col_held c) ∙ unset_held (col_vertex b c) unset;
  }

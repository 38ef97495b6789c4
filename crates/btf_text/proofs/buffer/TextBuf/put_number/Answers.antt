use Rattle.std.proofs.Common.{[], ◌∷◌, ◌∙◌}
use Rattle.btf_text.proofs.BufferLaws.{appends_kept}
use Rattle.btf_text.proofs.buffer.TextBuf.put_number.Goals as goal

pub returns : goal.returns
returns g c =
    rw (← (c.as_bytes-text.ensures.value ∙ c.format.ensures.text))
    (appends_kept _ (32 ∷ []) _ (appends_kept _ [] (32 ∷ []) c.make_room.ensures.same c.add.ensures.bytes c.add.ensures.failed) c.add-2.ensures.bytes c.add-2.ensures.failed)

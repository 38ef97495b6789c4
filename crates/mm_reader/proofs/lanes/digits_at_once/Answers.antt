use Rattle.std.proofs.Common.{◌∙◌}
use Rattle.mm_reader.proofs.Masks.{eight_here, word_is, eight_long, each_eight, word_small, eight_value}
use Rattle.mm_reader.proofs.lanes.digits_at_once.Goals as goal

pub joined-requires : goal.joined-requires
joined-requires c = word_small c.args.bytes.now c.args.from c.args.count c.requires.room c.requires.few c.requires.digits

pub returns : goal.returns
returns c =
    let bytes = c.args.bytes.now in
    let from = c.args.from in
    let count = c.args.count in
    c.joined.ensures (eight_here bytes from count)
    (eight_long bytes from count c.requires.room c.requires.few c.requires.digits)
    (each_eight bytes from count c.requires.room c.requires.few c.requires.digits)
    (word_is bytes from count c.requires.room c.requires.few c.requires.digits)
    ∙ eight_value bytes from count c.requires.room c.requires.few c.requires.digits

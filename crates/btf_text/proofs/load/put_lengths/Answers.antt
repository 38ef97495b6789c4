use Rattle.btf_text.proofs.load.put_lengths.Goals as goal

pub returns : goal.returns
returns g c = c.put_line.ensures

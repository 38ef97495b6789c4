-- The line that tells how the program is called.
use Rattle.std.specs.Prelude.{ℕ, List, codes}

-- all commands with their options
unfoldable pub usage_line : List ℕ
usage_line = codes "btf: usage: btf rank [--drop-zeros] | analyse [--engine E] [--workers W] [--order] [--pairs] [--drop-zeros] [--report V] [--least] | diagonal [--drop-zeros] | check [--drop-zeros] | load --size N --seed S [--engine E] [--workers W] | edit | bottleneck [--drop-zeros]\n"

-- that of the program over a batch, which has no command
unfoldable pub batch_usage_line : List ℕ
batch_usage_line = codes "btf_batch: usage: btf_batch [--workers W]\n"

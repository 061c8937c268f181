use Rattle.std.proofs.Common.{length, sym, ap, ◌∙◌}
use Rattle.std.proofs.lemmas.List.FromFn.{length-range_with_len}
use Rattle.tsc_pool.proofs.AllFree.{IsWhole-all_free, rows_out-all_free, none_is_out}
use Rattle.tsc_pool.proofs.pool.Pool.new.Goals as goal

pub invariant_of-result : goal.invariant_of-result
invariant_of-result c = (IsWhole-all_free _ c.in_ok-free.ensures.items (sym c.in_ok-block.block.ok.0 ∙ c.in_ok-block.ensures.len) c.requires.small, c.in_ok-free.ensures.room)

pub returns-clause-free : goal.returns-clause-free
returns-clause-free c = ap length c.in_ok-free.ensures.items ∙ length-range_with_len 0 c.args.rows

pub returns-clause-no_entry : goal.returns-clause-no_entry
returns-clause-no_entry c = rows_out-all_free _ c.in_ok-free.ensures.items

pub returns-clause-whole : goal.returns-clause-whole
returns-clause-whole c = IsWhole-all_free _ c.in_ok-free.ensures.items (sym c.in_ok-block.block.ok.0 ∙ c.in_ok-block.ensures.len) c.requires.small

pub returns-clause-none_out : goal.returns-clause-none_out
returns-clause-none_out c = λ index. sym (none_is_out (record { rows = c.args.rows; width = c.args.width; block = c.in_ok-block.block.items; free = c.in_ok-free.free.items }) c.in_ok-free.ensures.items index)

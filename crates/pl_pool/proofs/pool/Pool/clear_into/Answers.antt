use Rattle.std.proofs.Common.{◌++◌, ap, ◌∙◌, arith}
use Rattle.pl_pool.specs.Pool.{items_of, list_at}
use Rattle.pl_pool.proofs.Views.{still_told, still_left, one_shorter, one_spare, same_many}
use Rattle.pl_pool.proofs.pool.Pool.clear_into.Goals as goal

pub loop-item-preserved : goal.loop-item-preserved
loop-item-preserved g c =
    let v = c.loop-item.self in
    let w = c.pop_front.new.self in
    let taken = c.in-Some.ensures in
    let shorter = one_shorter v w c.args.list c.in-Some.item taken.0 taken.1 in
    let spare = one_spare v w c.args.list c.in-Some.item taken.0 taken.1 in
    let many = same_many v w c.args.list c.in-Some.item taken.0 taken.1 in
    record {
      told = ap (λ xs. xs ++ items_of (list_at w c.args.list)) c.push_reserved.ensures.items
          ∙ still_told v w c.args.list c.in-Some.item taken.0 taken.1 c.loop-item.to.items ∙ c.loop-item.invariant.told;
      left = still_left v w c.args.list c.in-Some.item taken.0 taken.1 ∙ c.loop-item.invariant.left;
      many = omega (arith, shorter, spare, c.loop-item.invariant.many);
      within = omega (arith, many, c.loop-item.invariant.within);
      room = omega (arith, shorter, c.loop-item.invariant.room, c.push_reserved.ensures.len, c.push_reserved.ensures.capacity);
    }

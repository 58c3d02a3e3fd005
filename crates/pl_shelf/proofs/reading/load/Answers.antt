use Rattle.std.proofs.Common.{◌≡◌, ◌+◌, ◌-◌, ◌≤◌, length, take, drop, arith, ap, sym, ◌∙◌, subst}
use Rattle.std.proofs.lemmas.List.{length-take-le, length-drop}
use Rattle.pl_shelf.specs.Held.{IsRead}
use Rattle.pl_shelf.proofs.Fronts.{front_read}
use Rattle.pl_shelf.proofs.reading.load.Goals as goal

pub loop-filled-preserved : goal.loop-filled-preserved
loop-filled-preserved g c =
    let invariant = c.loop-filled.invariant in
    let f = c.loop-filled.filled in
    let read = c.in_ok-n.ensures in
    let room = c.in_ok-make_room.ensures in
    let new = c.make_room.new.bytes in
    let tail = c.deref_mut.result.now in
    let same_tail : tail ≡ new.items = c.deref_mut.ensures.value in
    let tail_long : length tail ≡ new.len = ap length same_tail ∙ sym new.ok.0 in
    let within : f ≤ length tail = omega (arith, tail_long, room.ok) in
    let buf_long : length c.read_at.new.buf + f ≡ length tail =
    omega (arith, c.read_at.auto.buf, length-drop f tail, length-take-le (length tail - f) (drop f tail) (omega (arith, length-drop f tail))) in
    let fits : f + c.in_ok-n.n ≤ new.len = omega (arith, read.within, buf_long, tail_long) in
    let held = invariant.same c.args.name.now in
    record {
      filled = fits;
      within = room.within;
      front = front_read _ _ _ _ _ _ _ _ _ within read.within fits invariant.front (ap (take f) same_tail ∙ room.kept)
          (subst (λ h. IsRead h f c.in_ok-n.n c.read_at.new.buf) held read.read);
      same = λ q. read.same q ∙ invariant.same q;
      read_faults = read.faults.ok ∙ invariant.read_faults;
      write_faults = read.faults.other ∙ invariant.write_faults;
      capacity = read.capacity ∙ invariant.capacity;
    }

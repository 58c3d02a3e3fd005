use Rattle.std.proofs.Common.{◌≡◌, ◌∙◌, ◌<◌, length, map, refl, ap, arith}
use Rattle.pl_output.specs.Mail.{arrives_at, delivered, name_of}
use Rattle.pl_output.proofs.Sorted.{delivered-names, entry_at, sorted_more, sorted_none}
use Rattle.pl_output.proofs.saving.receiving.sort.Goals as goal

pub loop-index-init : goal.loop-index-init
loop-index-init c = record { names = refl; sorted = sorted_none c.args.entries.now _ c.args.inboxes.now.items refl refl c.requires }

pub loop-index-preserved : goal.loop-index-preserved
loop-index-preserved c =
    let entries = c.args.entries.now in
    let index = c.loop-index.index in
    let line = c.loop-index.line in
    let boxes = c.loop-index.inboxes.items in
    let entry = c.index-entries-index.result in
    let within : index < length entries = omega arith in
    let new : c.deliver.new.inboxes.items ≡ delivered boxes (arrives_at entry) line index =
    c.in_ok-deliver.ensures ∙ ap (λ h. delivered boxes h line index) c.host_of.ensures in
    record {
      names = ap (map name_of) new ∙ delivered-names boxes (arrives_at entry) line index ∙ c.loop-index.invariant.names;
      sorted = rw (new, c.line_behind-line.ensures)
          (sorted_more entries index line boxes entry (entry_at entries index entry within c.index-entries-index.is).0
          (entry_at entries index entry within c.index-entries-index.is).1 c.loop-index.invariant.sorted);
    }

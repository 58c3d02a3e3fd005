use Rattle.std.proofs.Common.{rules, ◌≡◌, length, [], ◌∷◌, refl, ap, ◌∙◌, arith}
use Rattle.std.proofs.lemmas.List.{map-append}
use Rattle.std.proofs.lemmas.Option.{slice_get_read}
use Rattle.pl_inputs.specs.Loaded.{files_of}
use Rattle.pl_inputs.proofs.Gathering.{gathers_on, untaken}
use Rattle.pl_inputs.proofs.loading.captures.load_captures.Goals as goal

-- src/loading/captures.rt:39:23
pub returns-in_err-capture-clause-err : goal.returns-in_err-capture-clause-err
returns-in_err-capture-clause-err g c =
    let S = g.S.Shelf in
    let l = c.loop-n in
    let hosts = c.hosts-host-items.result.now in
    let stands = slice_get_read hosts (length hosts) l.n c.host-item.result refl c.loop-n-test.true c.host-item.is in
    let u = untaken (S.moment c.args.shelf.now).held (S.moment l.shelf).held c.args.folder.now hosts l.n (files_of l.captures.items) l.left c.host-item.result
    l.invariant.gathers stands c.in_err-capture.field-0.0 c.in_err-capture.ensures.err in
    search rules

-- src/loading/captures.rt:37:5
pub loop-n-preserved : goal.loop-n-preserved
loop-n-preserved g c =
    let S = g.S.Shelf in
    let l = c.loop-n in
    let hosts = c.hosts-host-items.result.now in
    let file = c.in_ok-capture.capture.bytes.items in
    let stands = slice_get_read hosts (length hosts) l.n c.host-item.result refl c.loop-n-test.true c.host-item.is in
    let next = gathers_on (S.moment c.args.shelf.now).held (S.moment l.shelf).held (S.moment c.load_capture.new.shelf).held c.args.folder.now hosts l.n (files_of l.captures.items) l.left
    c.host-item.result file l.invariant.gathers c.in_ok-capture.ensures.same stands c.in_ok-capture.ensures.ok
    ((c.in_ok-capture.capture.records.items, c.in_ok-capture.capture.tail), c.in_ok-capture.capture.read) c.in_ok-capture.ensures.limit in
    let files = ap files_of c.in_ok-push.ensures.items ∙ map-append (λ x. x.bytes.items) l.captures.items (c.in_ok-capture.capture ∷ []) in
    let ok = c.in_ok-capture.capture.bytes.ok in
    let len = c.len.ensures in
    let long : c.len.result ≡ length file = omega arith in
    record {
      gathers = rw (files, long) next;
      reads = search rules;
      writes = search rules;
      capacity = c.in_ok-capture.ensures.capacity ∙ l.invariant.capacity;
    }

-- What the small changes of a world do to the count: an entry is written, an item is put or taken, a queue is emptied, a frame begins or is copied, a host sends or moves.
use Rattle.std.proofs.Common.{◌≡◌, ℕ, ◌+◌, ◌/◌, ◌%◌, ◌≤◌, ◌<◌, ◌==◌, ◌&&◌, Bool, true, false, if◌then◌else◌, List, [], ◌∷◌, ◌++◌, None, Option, Some, reverse, set, slice_get, refl, sym, ap, ◌∙◌, subst, arith, inl, inr}
use Rattle.std.specs.Option.{option_map}
use Rattle.std.proofs.lemmas.Bool.{cases_eq, cond-false, cond-true, eq-eqb, ne_eqb}
use Rattle.std.proofs.lemmas.Nat.{div-mul-add, mod-mul-add}
use Rattle.std.proofs.lemmas.Option.{slice_get_within}
use Rattle.pl_lemmas.proofs.Exports.{set_get, set_get_other}
use Rattle.pl_wiring.specs.Index.{port_index}
use Rattle.pl_wiring.specs.Plan.{Plan}
use Rattle.pl_journal.specs.declared.entry.Entry.{Entry}
use Rattle.pl_journal.specs.declared.entry.Entry.TheVariants.{Copied, Moved, Sent}
use Rattle.pl_journal.specs.Flights.{root}
use Rattle.pl_journal.specs.Places.{EdgePort, at_port, edge_port_of}
use Rattle.pl_journal.proofs.Exports.{past_more}
use Rattle.pl_queues.specs.Queues.{items_at, put_at}
use Rattle.pl_world.specs.declared.attachment.AttachmentPoint.{AttachmentPoint}
use Rattle.pl_world.specs.declared.item.Item.{Item}
use Rattle.pl_world.specs.declared.item.Item.TheVariants.{Control, Data}
use Rattle.pl_world.specs.Changes.{begun_by, host_no, noted, out_of, sent_by_host, sent_out}
use Rattle.pl_world.specs.Flying.{times_in_all}
use Rattle.pl_world.specs.Worlds.{WorldView}
use Rattle.pl_world.proofs.Exports.{born_more, one}
use Rattle.pl_law_counts.specs.Counting.{ComeOnce, ComesOnceTo, comes_from_place, count_all, count_in, has_root, OnceIn, standing, Targets}
use Rattle.pl_law_counts.proofs.Queues.{count_all-empty, count_all-put, count_all-same, count_all-take}

-- 1 where a frame that leaves by a port may come to a target
abbrev pub claim : {T : Type 0} → (Plan → ℕ → ℕ → T → List ℕ → Bool) → Plan → ℕ → ℕ → T → List ℕ → ℕ
claim may_come plan s port there frame = if may_come plan s port there frame then 1 else 0

-- of one root alone
abbrev pub of_root : List Entry → ℕ → ℕ → ℕ → ℕ
of_root past id many r = if root past id == r then many else 0

pub one_at_most : (b : Bool) → (if b then 1 else 0) ≤ 1
one_at_most true = omega arith
one_at_most false = omega arith

pub of_root_sum : (past : List Entry) (id a b r : ℕ) → of_root past id (a + b) r ≡ of_root past id a r + of_root past id b r
of_root_sum past id a b r = by_test (root past id == r)
  where
    by_test : (t : Bool) → (if t then a + b else 0) ≡ (if t then a else 0) + (if t then b else 0)
    by_test true = refl
    by_test false = refl

pub of_root_less : (past : List Entry) (id a b r : ℕ) → a ≤ b → of_root past id a r ≤ of_root past id b r
of_root_less past id a b r less = by_test (root past id == r)
  where
    by_test : (t : Bool) → (if t then a else 0) ≤ (if t then b else 0)
    by_test true = less
    by_test false = omega arith

both_ones : (a b : Bool) → ◌≡◌ {A = ℕ} (if a && b then 1 else 0) (if a then (if b then 1 else 0) else 0)
both_ones true b = refl
both_ones false b = refl

-- ---- entries
-- an entry that copies nothing, and with which no host moves
abbrev pub IsPlain : Entry → Type 0
IsPlain (Copied id copy) = ⊥
IsPlain (Moved h s port) = ⊥
IsPlain e = Unit {0}

-- the journal says of roots and of where hosts stand what it said before
plain_roots : (past : List Entry) (e : Entry) → IsPlain e → root (e ∷ past) ≡ root past
plain_roots past (Copied id copy) plain = absurd plain
plain_roots past (Moved h s port) plain = absurd plain
plain_roots past e plain = refl

pub plain_root : (past : List Entry) (e : Entry) → IsPlain e → (id : ℕ) → root (e ∷ past) id ≡ root past id
plain_root past e plain id = ap (λ (of : ℕ → ℕ). of id) (plain_roots past e plain)

plain_place : (plan : Plan) (past : List Entry) (e : Entry) → IsPlain e → (h : ℕ) → edge_port_of plan (e ∷ past) h ≡ edge_port_of plan past h
plain_place plan past (Copied id copy) plain h = absurd plain
plain_place plan past (Moved g s port) plain h = absurd plain
plain_place plan past e plain h = refl

-- a copy has the root of its frame, which keeps its own, as have all others
pub copied_root : (past : List Entry) (id n : ℕ) → root (Copied id n ∷ past) n ≡ root past id
copied_root past id n = ap (root past) (cond-true (n == n) id n (eq-eqb n n refl))

pub root_kept : (past : List Entry) (id n : ℕ) → root (Copied id n ∷ past) id ≡ root past id
root_kept past id n = ap (root past) (either (n == id))
  where
    either : (b : Bool) → (if b then id else id) ≡ id
    either true = refl
    either false = refl

stands_then : (attachments : List AttachmentPoint) (h : ℕ) (to from : AttachmentPoint) → slice_get attachments h ≡ Some from →
    (x : ℕ) → standing (set attachments h to) x ≡ (if h == x then Some (at_port to.edge.0 to.port) else standing attachments x)
stands_then attachments h to from found x = elim (cases_eq h x) [
  | inl same ↦ ap (standing (set attachments h to)) (sym same)
      ∙ ap (option_map (λ (s : AttachmentPoint). at_port s.edge.0 s.port)) (set_get attachments h to (slice_get_within attachments h from found))
      ∙ sym (cond-true (h == x) (Some (at_port to.edge.0 to.port)) (standing attachments x) (eq-eqb h x same))
  | inr other ↦ ap (option_map (λ (s : AttachmentPoint). at_port s.edge.0 s.port)) (set_get_other attachments h x to other)
      ∙ sym (cond-false (h == x) (Some (at_port to.edge.0 to.port)) (standing attachments x) (ne_eqb h x other))
]

module _ {T : Type 0} (targets : Targets T) (w : WorldView) where
  abbrev past : List Entry
  past = reverse w.journal

  pub weaker : (f g : ℕ → T → ℕ) → ((r : ℕ) (there : T) → g r there ≤ f r there) → OnceIn targets w f → OnceIn targets w g
  weaker f g less c = record { standing = c.standing; unbegun = c.unbegun; once = λ r there. omega (arith, c.once r there, less r there) }

  -- ---- queues
  -- the count of one frame at its port
  pub one_there : (r : ℕ) (there : T) (s port id : ℕ) (frame : List ℕ) → port < w.plan.k →
      count_in (comes_from_place targets w.plan past r there (port_index w.plan.k s port)) (Data id frame ∷ []) ≡ of_root past id (claim targets.may_come w.plan s port there frame) r
  one_there r there s port id frame within =
      ap (λ b. if◌then◌else◌ {A = ℕ} b 1 0) (ap (λ a. has_root past r id frame && targets.may_come w.plan a (port_index w.plan.k s port % w.plan.k) there frame) (div-mul-add s w.plan.k port within)
      ∙ ap (λ q. has_root past r id frame && targets.may_come w.plan s q there frame) (mod-mul-add s w.plan.k port within))
      ∙ both_ones (has_root past r id frame) (targets.may_come w.plan s port there frame)

  -- what is owed is put into a queue
  pub put_out : (g : ℕ → T → ℕ) (s port id : ℕ) (frame : List ℕ) → port < w.plan.k →
      OnceIn targets w (λ r there. of_root past id (claim targets.may_come w.plan s port there frame) r + g r there) → OnceIn targets (sent_out w s port (Data id frame)) g
  put_out g s port id frame within c = record {
    standing = c.standing;
    unbegun = c.unbegun;
    once = λ r there. omega (
      arith,
      c.once r there,
      one_there r there s port id frame within,
      count_all-put (comes_from_place targets w.plan past r there) w.out (port_index w.plan.k s port) (Data id frame),
    );
  }

  pub put_control : (g : ℕ → T → ℕ) (n : ℕ) (frame : List ℕ) → OnceIn targets w g → OnceIn targets (record w { out = put_at w.out n (Control frame) }) g
  put_control g n frame c = record {
    standing = c.standing;
    unbegun = c.unbegun;
    once = λ r there. omega (arith, c.once r there, count_all-put (comes_from_place targets w.plan past r there) w.out n (Control frame));
  }

  put_host : (g : ℕ → T → ℕ) (h id : ℕ) (frame : List ℕ) → OnceIn targets w (λ r there. of_root past id 1 r + g r there) →
      OnceIn targets (record w { from_hosts = put_at w.from_hosts h (Data id frame) }) g
  put_host g h id frame c = record {
    standing = c.standing;
    unbegun = c.unbegun;
    once = λ r there. omega (arith, c.once r there, count_all-put (λ n. has_root past r) w.from_hosts h (Data id frame));
  }

  -- the head of a queue is owed, where it is a data frame
  pub take_out : (s port id : ℕ) (frame : List ℕ) (items : List Item) → port < w.plan.k → out_of w s port ≡ Data id frame ∷ items → ComesOnceTo targets w →
      OnceIn targets (record w { out = set w.out (port_index w.plan.k s port) items }) (λ r there. of_root past id (claim targets.may_come w.plan s port there frame) r)
  take_out s port id frame items within is c = record {
    standing = c.standing;
    unbegun = c.unbegun;
    once = λ r there. omega (
      arith,
      c.once r there,
      one_there r there s port id frame within,
      count_all-take (comes_from_place targets w.plan past r there) w.out (port_index w.plan.k s port) (Data id frame) items is,
    );
  }

  pub take_any : (n : ℕ) (item : Item) (items : List Item) → items_at w.out n ≡ item ∷ items → ComesOnceTo targets w →
      ComesOnceTo targets (record w { out = set w.out n items })
  take_any n item items is c = record {
    standing = c.standing;
    unbegun = c.unbegun;
    once = λ r there. omega (arith, c.once r there, count_all-take (comes_from_place targets w.plan past r there) w.out n item items is);
  }

  pub take_host : (h id : ℕ) (frame : List ℕ) (items : List Item) → items_at w.from_hosts h ≡ Data id frame ∷ items → ComesOnceTo targets w →
      OnceIn targets (record w { from_hosts = set w.from_hosts h items }) (λ r there. of_root past id 1 r)
  take_host h id frame items is c = record {
    standing = c.standing;
    unbegun = c.unbegun;
    once = λ r there. omega (arith, c.once r there, count_all-take (λ n. has_root past r) w.from_hosts h (Data id frame) items is);
  }

  pub empty_out : (n : ℕ) → ComesOnceTo targets w → ComesOnceTo targets (record w { out = set w.out n [] })
  empty_out n c = record {
    standing = c.standing;
    unbegun = c.unbegun;
    once = λ r there. omega (arith, c.once r there, count_all-empty (comes_from_place targets w.plan past r there) w.out n);
  }

  pub empty_host : (h : ℕ) → ComesOnceTo targets w → ComesOnceTo targets (record w { from_hosts = set w.from_hosts h [] })
  empty_host h c = record {
    standing = c.standing;
    unbegun = c.unbegun;
    once = λ r there. omega (arith, c.once r there, count_all-empty (λ n. has_root past r) w.from_hosts h);
  }

  -- ---- entries
  -- an entry is written; with what came by it no more is owed than before
  pub note : (e : Entry) (f : ℕ → T → ℕ) (g : List Entry → ℕ → T → ℕ) → IsPlain e →
      ((r : ℕ) (there : T) → g (e ∷ past) r there + targets.came w.plan (e ∷ past) r there ≤ f r there + targets.came w.plan past r there) →
      OnceIn targets w f → OnceIn targets (noted w e) (g (reverse (w.journal ++ e ∷ [])))
  note e f g plain less c =
      let roots = plain_roots past e plain in
      subst (λ p. ComeOnce targets w.plan (standing w.attachments) p w.from_hosts w.out w.begun (g p)) (sym (past_more w.journal e)) (record {
        standing = λ h. plain_place w.plan past e plain h ∙ c.standing h;
        unbegun = λ id later. plain_root past e plain id ∙ c.unbegun id later;
        once = λ r there.
            let at_hosts : count_all (λ h. has_root (e ∷ past) r) w.from_hosts ≡ count_all (λ h. has_root past r) w.from_hosts =
            ap (λ (of : ℕ → ℕ). count_all (λ h id frame. of id == r) w.from_hosts) roots in
            let at_ports : count_all (comes_from_place targets w.plan (e ∷ past) r there) w.out ≡ count_all (comes_from_place targets w.plan past r there) w.out =
            ap (λ (of : ℕ → ℕ). count_all (λ n id frame. (of id == r) && targets.may_come w.plan (n / w.plan.k) (n % w.plan.k) there frame) w.out) roots in
            omega (arith, c.once r there, less r there, at_hosts, at_ports);
      })

  -- a frame begins: it is owed once at each target
  begin_one : (g : ℕ → T → ℕ) → OnceIn targets w g → OnceIn targets (record w { begun = w.begun + 1 }) (λ r there. of_root past (w.begun + 1) 1 r + g r there)
  begin_one g c = record {
    standing = c.standing;
    unbegun = λ id later. c.unbegun id (omega arith);
    once = λ r there.
        let itself : of_root past (w.begun + 1) 1 r ≡ one (w.begun + 1) r = ap (λ n. of_number n r) (c.unbegun (w.begun + 1) (omega arith)) in
        omega (arith, c.once r there, born_more r w.begun, itself);
  }
    where
      of_number : ℕ → ℕ → ℕ
      of_number n r = if n == r then 1 else 0

  -- a frame is copied
  pub copy_one : (id : ℕ) (f : ℕ → T → ℕ) (g : List Entry → ℕ → T → ℕ) → times_in_all (w.begun + 1) w.from_hosts ≡ 0 → times_in_all (w.begun + 1) w.out ≡ 0 →
      ((r : ℕ) (there : T) → g (Copied id (w.begun + 1) ∷ past) r there + targets.came w.plan (Copied id (w.begun + 1) ∷ past) r there ≤ f r there + targets.came w.plan past r there) →
      OnceIn targets w f → OnceIn targets (begun_by w (Copied id (w.begun + 1))) (g (reverse (w.journal ++ Copied id (w.begun + 1) ∷ [])))
  copy_one id f g not_at_hosts not_out less c =
      let n : ℕ = w.begun + 1 in
      let now : List Entry = Copied id n ∷ past in
      let kept : (x : ℕ) → (n == x) ≡ false → root now x ≡ root past x = λ x other. ap (root past) (cond-false (n == x) id x other) in
      subst (λ p. ComeOnce targets w.plan (standing w.attachments) p w.from_hosts w.out n (g p)) (sym (past_more w.journal (Copied id n))) (record {
        standing = c.standing;
        unbegun = λ x later. kept x (ne_eqb n x (λ e. absurd (omega arith))) ∙ c.unbegun x (omega arith);
        once = λ r there.
            let at_hosts = count_all-same (λ h. has_root now r) (λ h. has_root past r) n (λ h x frame other. ap (λ y. y == r) (kept x other)) w.from_hosts not_at_hosts in
            let at_ports = count_all-same (comes_from_place targets w.plan now r there) (comes_from_place targets w.plan past r there) n
            (λ p x frame other. ap (λ y. (y == r) && targets.may_come w.plan (p / w.plan.k) (p % w.plan.k) there frame) (kept x other)) w.out not_out in
            omega (arith, c.once r there, less r there, at_hosts, at_ports, born_more r w.begun);
      })

-- a frame begins with an entry, at a host or at a switch
module _ {T : Type 0} (targets : Targets T) (w : WorldView) where
  pub begin_with : (e : Entry) (g : ℕ → T → ℕ) → IsPlain e → ((r : ℕ) (there : T) → targets.came w.plan (e ∷ reverse w.journal) r there ≤ targets.came w.plan (reverse w.journal) r there) →
      OnceIn targets w g → OnceIn targets (begun_by w e) (λ r there. of_root (reverse (w.journal ++ e ∷ [])) (w.begun + 1) 1 r + g r there)
  begin_with e g plain same c =
      note targets (record w { begun = w.begun + 1 }) e _ (λ p r there. of_root p (w.begun + 1) 1 r + g r there) plain
      (λ r there. let own : of_root (e ∷ reverse w.journal) (w.begun + 1) 1 r ≡ of_root (reverse w.journal) (w.begun + 1) 1 r =
      ap (λ n. if◌then◌else◌ {A = ℕ} (n == r) 1 0) (plain_root (reverse w.journal) e plain (w.begun + 1)) in
      omega (arith, own, same r there))
      (begin_one targets w g c)

  pub send_one : (h : ℕ) (frame : List ℕ) →
      ((r : ℕ) (there : T) → targets.came w.plan (Sent (w.begun + 1) (host_no h) frame ∷ reverse w.journal) r there ≤ targets.came w.plan (reverse w.journal) r there) →
      ComesOnceTo targets w → ComesOnceTo targets (sent_by_host w h frame)
  send_one h frame same c =
      put_host targets (begun_by w (Sent (w.begun + 1) (host_no h) frame)) (λ r there. 0) h (w.begun + 1) frame
      (begin_with (Sent (w.begun + 1) (host_no h) frame) (λ r there. 0) tt same c)

  -- a host moves
  pub move_one : (h : ℕ) (from to : AttachmentPoint) → slice_get w.attachments h ≡ Some from →
      ((r : ℕ) (there : T) → targets.came w.plan (Moved (host_no h) to.edge to.port ∷ reverse w.journal) r there ≤ targets.came w.plan (reverse w.journal) r there) →
      ComesOnceTo targets w →
      ComesOnceTo targets (noted (record w { attachments = set w.attachments h to; heard = set w.heard h None }) (Moved (host_no h) to.edge to.port))
  move_one h from to found same c =
      let now : ℕ → Option EdgePort = standing (set w.attachments h to) in
      subst (λ p. ComeOnce targets w.plan now p w.from_hosts w.out w.begun (λ r there. 0)) (sym (past_more w.journal (Moved (host_no h) to.edge to.port))) (record {
        standing = λ x. ap (λ o. if◌then◌else◌ {A = Option EdgePort} (h == x) (Some (at_port to.edge.0 to.port)) o) (c.standing x) ∙ sym (stands_then w.attachments h to from found x);
        unbegun = c.unbegun;
        once = λ r there. omega (arith, c.once r there, same r there);
      })

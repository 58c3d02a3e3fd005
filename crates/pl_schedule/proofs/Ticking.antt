-- The ticks of hosts are counted port by port.
use Rattle.std.proofs.Common.{◌≡◌, ℕ, zero, suc, ◌+◌, ◌<◌, ◌==◌, ◌&&◌, nat_lt, Bool, true, false, cond, List, [], ◌∷◌, length, get_or, set, Option, Some, None, slice_get, refl, sym, ◌∙◌, ap, arith}
use Rattle.std.specs.List.{AllByRecursion, position}
use Rattle.std.specs.Option.{option_map}
use Rattle.std.proofs.lemmas.Bool.Decides.{nat_tests}
use Rattle.std.proofs.lemmas.List.Quantifiers.{position-Some}
use Rattle.std.proofs.lemmas.Option.{slice_get-get_or}
use Rattle.pl_wiring.specs.declared.host.HostNo.{HostNo}
use Rattle.pl_world.specs.declared.attachment.AttachmentPoint.{AttachmentPoint}
use Rattle.pl_world.specs.Changes.{stands_at}
use Rattle.pl_world.specs.Flying.{IsTreePort, IsFormed}
use Rattle.pl_world.specs.OtherActs.{heard_after_tick, one_more_tick}
use Rattle.pl_world.specs.Worlds.{WorldView}
use Rattle.pl_world.proofs.Exports.{ticked_heard}

-- one of the first so many ports of the switch
abbrev pub is_below : ℕ → ℕ → AttachmentPoint → Bool
is_below s many attachment = (attachment.edge.0 == s) && nat_lt attachment.port many

-- the tick counts for the hosts that stand there
abbrev pub heard_below : ℕ → ℕ → List AttachmentPoint → List (Option ℕ) → List (Option ℕ)
heard_below s many (attachment ∷ attachments) (ticks ∷ heard) = cond (is_below s many attachment) (one_more_tick ticks) ticks ∷ heard_below s many attachments heard
heard_below s many _ heard = heard

none_below : (s : ℕ) (attachment : AttachmentPoint) → is_below s 0 attachment ≡ false
none_below s attachment = elim (attachment.edge.0 == s) as (λ b. (b && nat_lt attachment.port 0) ≡ false) [
  | true ↦ grind (arith, nat_tests)
  | false ↦ refl
]

all_below : (s k : ℕ) (attachment : AttachmentPoint) → attachment.port < k → is_below s k attachment ≡ (attachment.edge.0 == s)
all_below s k attachment within = elim (attachment.edge.0 == s) as (λ b. (b && nat_lt attachment.port k) ≡ b) [
  | true ↦ grind (arith, nat_tests)
  | false ↦ refl
]

not_yet : (s port : ℕ) (attachment : AttachmentPoint) → stands_at s port attachment ≡ true → is_below s port attachment ≡ false
not_yet s port attachment = elim (attachment.edge.0 == s) as (λ b. (b && (attachment.port == port)) ≡ true → (b && nat_lt attachment.port port) ≡ false) [
  | true ↦ λ e. grind (arith, nat_tests)
  | false ↦ λ e. refl
]

by_now : (s port : ℕ) (attachment : AttachmentPoint) → stands_at s port attachment ≡ true → is_below s (port + 1) attachment ≡ true
by_now s port attachment = elim (attachment.edge.0 == s) as (λ b. (b && (attachment.port == port)) ≡ true → (b && nat_lt attachment.port (port + 1)) ≡ true) [
  | true ↦ λ e. grind (arith, nat_tests)
  | false ↦ λ e. e
]

as_before : (s port : ℕ) (attachment : AttachmentPoint) → stands_at s port attachment ≡ false → is_below s (port + 1) attachment ≡ is_below s port attachment
as_before s port attachment =
    elim (attachment.edge.0 == s) as (λ b. (b && (attachment.port == port)) ≡ false → (b && nat_lt attachment.port (port + 1)) ≡ (b && nat_lt attachment.port port)) [
      | true ↦ λ e. grind (arith, nat_tests)
      | false ↦ λ e. refl
    ]

pub heard_first : (s : ℕ) (attachments : List AttachmentPoint) (heard : List (Option ℕ)) → heard ≡ heard_below s 0 attachments heard
heard_first s [] heard = refl
heard_first s (attachment ∷ attachments) [] = refl
heard_first s (attachment ∷ attachments) (ticks ∷ heard) =
    ap (λ b. cond b (one_more_tick ticks) ticks ∷ heard) (sym (none_below s attachment))
    ∙ ap (λ ts. cond (is_below s 0 attachment) (one_more_tick ticks) ticks ∷ ts) (heard_first s attachments heard)

pub heard_last : (s k : ℕ) (attachments : List AttachmentPoint) (heard : List (Option ℕ)) → AllByRecursion (IsTreePort k) attachments →
    heard_below s k attachments heard ≡ heard_after_tick s attachments heard
heard_last s k [] heard at = refl
heard_last s k (attachment ∷ attachments) [] at = refl
heard_last s k (attachment ∷ attachments) (ticks ∷ heard) at =
    ap (λ b. cond b (one_more_tick ticks) ticks ∷ heard_below s k attachments heard) (all_below s k attachment at.0.port)
    ∙ ap (λ ts. cond (attachment.edge.0 == s) (one_more_tick ticks) ticks ∷ ts) (heard_last s k attachments heard at.1)

pub counted_after : (s port k : ℕ) (attachments : List AttachmentPoint) (heard : List (Option ℕ)) → port ≡ k → AllByRecursion (IsTreePort k) attachments →
    heard_below s port attachments heard ≡ heard_after_tick s attachments heard
counted_after s port k attachments heard end at = ap (λ n. heard_below s n attachments heard) end ∙ heard_last s k attachments heard at

pub heard_many : (s many : ℕ) (attachments : List AttachmentPoint) (heard : List (Option ℕ)) → length (heard_below s many attachments heard) ≡ length heard
heard_many s many [] heard = refl
heard_many s many (attachment ∷ attachments) [] = refl
heard_many s many (attachment ∷ attachments) (ticks ∷ heard) = ap suc (heard_many s many attachments heard)

module _ (s port : ℕ) where
  heard_same : (attachments : List AttachmentPoint) (heard : List (Option ℕ)) → ((n : ℕ) (x : AttachmentPoint) → slice_get attachments n ≡ Some x → stands_at s port x ≡ false) →
      heard_below s (port + 1) attachments heard ≡ heard_below s port attachments heard
  heard_same [] heard none = refl
  heard_same (attachment ∷ attachments) [] none = refl
  heard_same (attachment ∷ attachments) (ticks ∷ heard) none =
      ap (λ b. cond b (one_more_tick ticks) ticks ∷ heard_below s (port + 1) attachments heard) (as_before s port attachment (none 0 attachment refl))
      ∙ ap (λ ts. cond (is_below s port attachment) (one_more_tick ticks) ticks ∷ ts) (heard_same attachments heard (λ n x at. none (suc n) x at))

  fails : (attachment : AttachmentPoint) → (stands_at s port attachment ≡ true → ⊥) → stands_at s port attachment ≡ false
  fails attachment = elim (stands_at s port attachment) as (λ b. (b ≡ true → ⊥) → b ≡ false) [
    | true ↦ λ f. absurd (f refl)
    | false ↦ λ f. refl
  ]

  -- the only host at a port, which has this number
  heard_one : (attachments : List AttachmentPoint) (heard : List (Option ℕ)) (n : ℕ) (d : Option ℕ) (x : AttachmentPoint) → n < length heard → slice_get attachments n ≡ Some x →
      stands_at s port x ≡ true → ((m : ℕ) (y : AttachmentPoint) → slice_get attachments m ≡ Some y → stands_at s port y ≡ true → m ≡ n) →
      set (heard_below s port attachments heard) n (one_more_tick (get_or (heard_below s port attachments heard) n d)) ≡ heard_below s (port + 1) attachments heard
  heard_one [] heard n d x within at here only = absurd (cc)
  heard_one (attachment ∷ attachments) [] n d x within at here only = absurd (omega arith)
  heard_one (attachment ∷ attachments) (ticks ∷ heard) zero d x within at here only =
      let is : stands_at s port attachment ≡ true = cc in
      ap (λ b. one_more_tick (cond b (one_more_tick ticks) ticks) ∷ heard_below s port attachments heard) (not_yet s port attachment is)
      ∙ ap (λ ts. one_more_tick ticks ∷ ts) (sym (heard_same attachments heard (λ n y there. fails y (λ e. let more = only (suc n) y there e in absurd (omega arith)))))
      ∙ ap (λ b. cond b (one_more_tick ticks) ticks ∷ heard_below s (port + 1) attachments heard) (sym (by_now s port attachment is))
  heard_one (attachment ∷ attachments) (ticks ∷ heard) (suc n) d x within at here only =
      ap (λ ts. cond (is_below s port attachment) (one_more_tick ticks) ticks ∷ ts)
      (heard_one attachments heard n d x (omega arith) at here (λ m y there e. let more = only (suc m) y there e in omega arith))
      ∙ ap (λ b. cond b (one_more_tick ticks) ticks ∷ heard_below s (port + 1) attachments heard)
      (sym (as_before s port attachment (fails attachment (λ e. let more = only 0 attachment refl e in absurd (omega arith)))))

  -- the host at one port more
  module _ (attachments : List AttachmentPoint) (first now : List (Option ℕ)) (there : Option HostNo) (same : now ≡ heard_below s port attachments first)
      (is : option_map (λ (h : HostNo). h.0) there ≡ position (stands_at s port) attachments)
      (alone : (n : ℕ) (x : AttachmentPoint) → slice_get attachments n ≡ Some x → stands_at s port x ≡ true → option_map (λ (h : HostNo). h.0) there ≡ Some n) where
    pub nobody_counts : there ≡ None → now ≡ heard_below s (port + 1) attachments first
    nobody_counts none =
        same
        ∙ sym (heard_same attachments first (λ n x at. fails x (λ e.
        let found = alone n x at e in
        let nothing = ap (option_map (λ (h : HostNo). h.0)) none in absurd (cc))))

    pub one_counts : (h : HostNo) (d : Option ℕ) (later : List (Option ℕ)) → length attachments ≡ length first → there ≡ Some h →
        later ≡ set now h.0 (one_more_tick (get_or now h.0 d)) → later ≡ heard_below s (port + 1) attachments first
    one_counts h d later many found set_so =
        let d_stand : AttachmentPoint = record { edge = record { 0 = 0 }; port = 0 } in
        let placed : position (stands_at s port) attachments ≡ Some h.0 = sym is ∙ ap (option_map (λ (h : HostNo). h.0)) found in
        let parts = position-Some (stands_at s port) attachments h.0 d_stand placed in
        let within = parts.0 in
        set_so ∙ ap (λ ts. set ts h.0 (one_more_tick (get_or ts h.0 d))) same
        ∙ heard_one attachments first h.0 d (get_or attachments h.0 d_stand) (omega arith) (slice_get-get_or attachments h.0 d_stand within) parts.1
        (λ m y at e. let also = alone m y at e in let first_is = ap (option_map (λ (h : HostNo). h.0)) found in cc)

pub formed_heard : (v : WorldView) (s : ℕ) (new : List (Option ℕ)) → new ≡ heard_after_tick s v.attachments v.heard → IsFormed v → IsFormed (record v { heard = new })
formed_heard v s new is f = record {
  plan = f.plan;
  links = f.links;
  attachments = f.attachments;
  at_ports = f.at_ports;
  heard = ap length is ∙ ticked_heard s v.attachments v.heard ∙ f.heard;
  switches = f.switches;
  ports = f.ports;
  hosts = f.hosts;
  from_hosts = f.from_hosts;
  out = f.out;
  to_manager = f.to_manager;
  from_manager = f.from_manager;
}

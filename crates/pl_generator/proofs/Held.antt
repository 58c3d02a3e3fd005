-- What the shelf holds under each name.
use Rattle.std.proofs.Common.{◌≡◌, ◌≢◌, ◌⊎◌, ℕ, cond, ◌+◌, ◌*◌, ◌<◌, ◌^◌, List, [], length, take, get_or, codes, Some, Option, option_and_then, refl, sym, ◌∙◌, ap, subst, inl, inr, not-suc-le-zero, arith}
use Rattle.std.specs.Ordering.{nat_cmp}
use Rattle.std.specs.Cmp.Lexicographic.{slice_cmp, nat_list_cmp_total}
use Rattle.std.specs.FinMap.{get, get-empty, get-insert}
use Rattle.std.proofs.lemmas.List.{append_cancel_left, append_cancel_right, get_or-take, get_or_default, length-take-le}
use Rattle.std.proofs.lemmas.Bool.{cases_eq}
use Rattle.std.proofs.lemmas.Fmt.{decimal_injective}
use Rattle.pl_lemmas.proofs.Exports.{other_bytes, same_bytes}
use Rattle.pl_shelf.specs.Held.{Held, Changes, absent, holds}
use Rattle.pl_shelf.specs.MemoryShelf.{MemoryState, Place, held_in, held_of, placed, empty_memory}
use Rattle.pl_generator.specs.Generated.{AreGenerated, AreHeld, capture_name, script_name, topology_name}
use Rattle.pl_generator.specs.Hosts.{host_count}
use Rattle.pl_generator.specs.TopologyText.{topology_text}
use Rattle.pl_generator.specs.ScriptText.{script_lines, script_text}
use Rattle.pl_generator.specs.Captures.{AreDrawnCaptures, capture_of, capture_text}
use Rattle.pl_generator.specs.Drawing.{frames_of, last_number}
use Rattle.pl_generator.specs.declared.drawing.DrawnFrame.{DrawnFrame}

-- what is put on the shelf is held under its name, and nothing else changes
pub placed_held : (shelf : MemoryState) (name bytes : List ℕ) (room : ℕ) →
    Changes (held_in shelf.places) (held_in (placed shelf name (record { content = Some bytes; room = room })).places) name (holds bytes)
placed_held shelf name bytes room =
    let place : Place = record { content = Some bytes; room = room } in
    let seen : Option Place → Held = λ o. held_of (option_and_then (λ p. p.content) o) in
    record {
      named = ap seen (get-insert nat_list_cmp_total shelf.places name place name ∙ ap (λ b. cond b (Some place) (get shelf.places name)) (same_bytes name));
      others = λ q other.
          ap seen (get-insert nat_list_cmp_total shelf.places name place q ∙ ap (λ b. cond b (Some place) (get shelf.places q)) (other_bytes q name other));
    }

pub placed_as : (shelf new : MemoryState) (name bytes named held : List ℕ) → named ≡ name → held ≡ bytes →
    new ≡ placed shelf named (record { content = Some held; room = length held }) →
    Changes (held_in shelf.places) (held_in new.places) name (holds bytes)
placed_as shelf new name bytes named held is_name is_bytes is =
    let put : Changes (held_in shelf.places) (held_in new.places) named (holds held) =
    subst (λ m. Changes (held_in shelf.places) (held_in m.places) named (holds held)) (sym is) (placed_held shelf named held (length held)) in
    subst (λ n. Changes (held_in shelf.places) (held_in new.places) n (holds bytes)) is_name
    (subst (λ bs. Changes (held_in shelf.places) (held_in new.places) named (holds bs)) is_bytes put)

pub nothing_first : (shelf : MemoryState) (piece : ℕ) → shelf ≡ empty_memory piece → (name : List ℕ) → held_in shelf.places name ≡ absent
nothing_first shelf piece is name =
    ap (λ m. held_in m.places name) is
    ∙ ap (λ o. held_of (option_and_then (λ p. p.content) o)) (get-empty (slice_cmp nat_cmp) name)

-- two hosts' captures have different names
pub same_host : (a b : ℕ) → a < 2 ^ 64 → b < 2 ^ 64 → capture_name a ≡ capture_name b → a ≡ b
unfolding capture_name
same_host a b small_a small_b same =
    let files = append_cancel_left (codes "captures/") _ _ same in
    let stems = append_cancel_right _ _ (codes ".pcap") files in
    decimal_injective a b small_a small_b (append_cancel_left (codes "h") _ _ stems)

pub none_held : (old : List ℕ → Held) → AreHeld old old []
none_held old = record {
  each = λ host within. absurd (not-suc-le-zero within);
  others = λ name other. refl;
}

module _ (old mid new : List ℕ → Held) (captures : List (List ℕ)) (i : ℕ) (capture : List ℕ) (within : i < length captures)
    (small : i < 2 ^ 64) (is : capture ≡ get_or captures i capture) (so_far : AreHeld old mid (take i captures))
    (change : Changes mid new (capture_name i) (holds capture)) where
  before : length (take i captures) ≡ i
  before = length-take-le i captures (omega (arith, within))

  behind : length (take (i + 1) captures) ≡ i + 1
  behind = length-take-le (i + 1) captures (omega (arith, within))

  each_more : (host : ℕ) → host < i + 1 → (host ≡ i) ⊎ (host ≢ i) → new (capture_name host) ≡ holds (get_or captures host [])
  each_more host below (inl same) =
      subst (λ n. new (capture_name n) ≡ holds (get_or captures n [])) (sym same)
      (change.named ∙ ap (λ bs. holds bs) (is ∙ get_or_default captures i capture [] within))
  each_more host below (inr other) =
      let lower : host < i = omega (arith, below, other) in
      let there : host < length (take i captures) = omega (arith, lower, before) in
      change.others (capture_name host) (λ same. other (same_host host i (omega (arith, lower, small)) small same))
      ∙ so_far.each host there
      ∙ ap (λ bs. holds bs) (get_or-take i captures host [] lower)

  pub held_more : AreHeld old new (take (i + 1) captures)
  held_more = record {
    each = λ host below.
        let lower : host < i + 1 = omega (arith, below, behind) in
        each_more host lower (cases_eq host i) ∙ ap (λ bs. holds bs) (sym (get_or-take (i + 1) captures host [] lower));
    others = λ name other.
        change.others name (other i (omega (arith, behind)))
        ∙ so_far.others name (λ host below. other host (omega (arith, below, before, behind)));
  }

pub script_is : (k number frames : ℕ) (drawn : List DrawnFrame) (last : ℕ) → drawn ≡ frames_of (host_count k) number frames →
    last ≡ last_number number frames → script_lines drawn last (10 * frames) ≡ script_text k number frames
unfolding script_text
script_is k number frames drawn last are_drawn is_last =
    ap (λ fs. script_lines fs last (10 * frames)) are_drawn
    ∙ ap (λ x. script_lines (frames_of (host_count k) number frames) x (10 * frames)) is_last

at_first : (a b : List ℕ) → a ≡ b → get_or a 0 0 ≡ get_or b 0 0
at_first a b same = ap (λ xs. get_or xs 0 0) same

topology_apart : (host : ℕ) → topology_name ≢ capture_name host
unfolding capture_name
topology_apart host same =
    let first : 116 ≡ 99 = at_first _ _ same in
    absurd (omega (arith, first))

script_apart : (host : ℕ) → script_name ≢ capture_name host
unfolding capture_name
script_apart host same =
    let first : 115 ≡ 99 = at_first _ _ same in
    absurd (omega (arith, first))

topology_and_script : topology_name ≢ script_name
topology_and_script same =
    let first : 116 ≡ 115 = at_first _ _ same in
    absurd (omega (arith, first))

module _ (k number frames : ℕ) (start first second last : List ℕ → Held) (captures : List (List ℕ)) (drawn : List DrawnFrame)
    (none : (name : List ℕ) → start name ≡ absent) (topology : Changes start first topology_name (holds (topology_text k)))
    (script : Changes first second script_name (holds (script_text k number frames))) (held : AreHeld second last captures)
    (are_drawn : drawn ≡ frames_of (host_count k) number frames) (are_captures : AreDrawnCaptures (host_count k) drawn captures) where
  capture_held : (host : ℕ) → host < host_count k → last (capture_name host) ≡ holds (capture_text k number frames host)
  unfolding capture_text
  capture_held host within =
      held.each host (subst (λ n. host < n) (sym are_captures.count) within)
      ∙ ap (λ bs. holds bs) (are_captures.each host within ∙ ap (capture_of host) are_drawn)

  pub all_held : AreGenerated last k number frames
  all_held = record {
    topology = held.others topology_name (λ host within. topology_apart host) ∙ script.others topology_name topology_and_script ∙ topology.named;
    script = held.others script_name (λ host within. script_apart host) ∙ script.named;
    captures = capture_held;
    others = λ name other.
        held.others name (λ host within. other.captures host (subst (λ n. host < n) are_captures.count within))
        ∙ script.others name other.script
        ∙ topology.others name other.topology
        ∙ none name;
  }

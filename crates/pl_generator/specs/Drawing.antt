-- Which frames the hosts send: drawn by numbers, two for each frame.
use Rattle.std.specs.Prelude.{◌≡◌, ℕ, zero, suc, ◌+◌, ◌-◌, ◌%◌, List, [], ◌∷◌, map, refl}
use Rattle.std.specs.List.{range_with_len}
use Rattle.pl_draws.specs.Draws.{next_number, upper_half}
use Rattle.pl_generator.specs.declared.drawing.DrawnFrame.{DrawnFrame}

-- any host
abbrev pub source_by : ℕ → ℕ → ℕ
source_by hosts x = upper_half x % hosts

-- any host but the source
abbrev pub destination_by : ℕ → ℕ → ℕ → ℕ
destination_by hosts source x = (source + 1 + upper_half x % (hosts - 1)) % hosts

-- the number that was drawn last, once so many frames were drawn from x on
abbrev pub last_number : ℕ → ℕ → ℕ
last_number x zero = x
last_number x (suc frames) = next_number (next_number (last_number x frames))

-- the frame that is drawn behind x: first its source, then its destination
abbrev pub frame_behind : ℕ → ℕ → ℕ → DrawnFrame
frame_behind hosts x number = record {
  source = source_by hosts (next_number x);
  destination = destination_by hosts (source_by hosts (next_number x)) (next_number (next_number x));
  number = number;
}

-- frame number f of those that are drawn from x on
abbrev pub frame_at : ℕ → ℕ → ℕ → DrawnFrame
frame_at hosts x f = frame_behind hosts (last_number x f) f

-- so many frames
unfoldable pub frames_of : ℕ → ℕ → ℕ → List DrawnFrame
frames_of hosts x frames = map (frame_at hosts x) (range_with_len 0 frames)

abbrev frame : ℕ → ℕ → ℕ → DrawnFrame
frame source destination number = record { source = source; destination = destination; number = number }

-- 16 hosts, and three frames from 1
first_frames : frames_of 16 1 3 ≡ frame 12 4 0 ∷ frame 9 11 1 ∷ frame 4 15 2 ∷ []
unfolding frames_of
first_frames = refl

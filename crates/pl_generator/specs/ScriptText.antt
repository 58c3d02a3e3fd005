-- The text of a generated script.
use Rattle.std.specs.Prelude.{◌≡◌, ℕ, ◌*◌, List, ◌++◌, codes, decimal, refl}
use Rattle.std.specs.List.{flat_map}
use Rattle.std.specs.Fmt.{digits}
use Rattle.pl_generator.specs.declared.drawing.DrawnFrame.{DrawnFrame}
use Rattle.pl_generator.specs.Hosts.{host_count}
use Rattle.pl_generator.specs.Drawing.{frames_of, last_number}

-- the source of a frame sends its next record
abbrev pub send_line : DrawnFrame → List ℕ
send_line frame = codes "send h" ++ decimal frame.source ++ codes "\n"

-- steps that are drawn from x on, and then all comes to rest
abbrev pub closing_lines : ℕ → ℕ → List ℕ
closing_lines x steps =
    codes "random " ++ decimal x ++ codes " " ++ decimal steps ++ codes "\n"
    ++ codes "settle 64\nretry all\nsettle 64\n"

-- every host starts, the frames are sent, and the steps are drawn behind the number that was drawn last
abbrev pub script_lines : List DrawnFrame → ℕ → ℕ → List ℕ
script_lines frames x steps = codes "start all\nsettle 64\n" ++ flat_map send_line frames ++ closing_lines x steps

unfoldable pub script_text : ℕ → ℕ → ℕ → List ℕ
script_text k number frames = script_lines (frames_of (host_count k) number frames) (last_number number frames) (10 * frames)

-- two frames from 1, at k = 4
short_script : script_text 4 1 2 ≡
    codes "start all\nsettle 64\nsend h12\nsend h9\nrandom 7062582979898595269 20\nsettle 64\nretry all\nsettle 64\n"
unfolding script_text frames_of digits
short_script = refl

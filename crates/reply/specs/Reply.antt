-- What a desk's command says: the bytes that it prints, and whether it was carried out. Assumes nothing: these are definitions.
use Rattle.std.specs.Prelude.{ℕ, ◌≡◌, List, [], Ok, Err}
use Rattle.refusal.specs.declared.Refusal.{Refusal}
use Rattle.writing.specs.Written.{Written}
use Rattle.report.specs.Report.{refused_line}
use Rattle.reply.specs.declared.Status.{Status}
use Rattle.reply.specs.declared.Status.TheVariants.{Answered, Refused, RefusedSecond, Misused}
use Rattle.reply.specs.declared.Reply.{Reply}
use Rattle.refusal.specs.Answers.{Acceptance, Extent}

-- the room that every reply is put into
abbrev pub most_reply : ℕ
most_reply = 1048576

pub record Said : Type 0 where
  pub bytes : List ℕ
  pub status : Status

abbrev pub answered : List ℕ → Said
answered bytes = record { bytes = bytes; status = Answered }

-- "one line as the paper prints it"
abbrev pub refused_by : Refusal → Said
refused_by r = record { bytes = refused_line r; status = Refused }

-- the same line where it is the second input that is turned away
abbrev pub second_refused : Refusal → Said
second_refused r = record { bytes = refused_line r; status = RefusedSecond }

-- words that are no command: nothing is printed
abbrev pub misused : Said
misused = record { bytes = []; status = Misused }

-- by what a call returned: its refusal, or what is said of its answer
unfoldable pub on_acceptance : Acceptance → Said → Said
on_acceptance (Ok _) s = s
on_acceptance (Err r) s = refused_by r

unfoldable pub on_second : Acceptance → Said → Said
on_second (Ok _) s = s
on_second (Err r) s = second_refused r

unfoldable pub on_extent : Extent → (ℕ → Said) → Said
on_extent (Ok k) f = f k
on_extent (Err r) f = refused_by r

-- a reply in a room says this: its bytes stand at the start of what the room held
pub record Replied (s : Said) (old : List ℕ) (r : Reply) (room : List ℕ) : Type 0 where
  pub status : r.status ≡ s.status
  pub written : Written s.bytes old r.width room

-- The words of a command are read as that command, and a line of other words is misuse. Assumes nothing.
use mathlib.Core.Path.{◌≡◌, refl, sym, ◌∙◌, ap, ap₂, subst}
use mathlib.Core.Logic.{◌⊎◌, inl, inr, ⊎_elim}
use mathlib.Core.Bool.{true}
use mathlib.Core.List.{List, [], ◌∷◌, ◌++◌, append_assoc, append-nil}
use Prim.Native.Nat.{ℕ, zero, suc, ◌+◌, ◌≤◌, ◌<◌}
use native.Mathlib.Omega.{arith}
use lib.ListN.{length, get_or, take, drop, set, replicate, length-append, length-drop, length-replicate, drop_of_length-le}
use lib.Seq.{drop-append_seam, append_snoc}
use lib.Dec.{eqb, leb}
use borrow.Author.Tests.{le-leb, leb-true, eqb-true}
use Rattle.weights.proofs.Choice.{apart}
use Rattle.columns.specs.Filled.{filled}
use Rattle.columns.proofs.Filled.{filled_none, filled-set, take-filled}
use Rattle.text.specs.Render.{digits, tail_text}
use Rattle.text.specs.Machine.{digit_of}
use Rattle.text.proofs.Digits.{pick_by}
use Rattle.cursor.specs.declared.Token.{Token}
use Rattle.cursor.specs.declared.Separator.{Separator}
use Rattle.cursor.specs.declared.Separator.TheVariants as separator
use Rattle.cursor.specs.Cursor.{token, number_at, separator_at}
use Rattle.cursor.proofs.Counts.{number_counts}
use Rattle.reading.specs.Lines.{agreeing}
use Rattle.reader.proofs.Fields.{behind, space_text, end_text, space_found, end_found, number_text, Stops, number_found}
use Rattle.command.specs.declared.Name.{Name}
use Rattle.command.specs.declared.Name.TheVariants as name
use Rattle.command.specs.declared.Named.{Named}
use Rattle.command.specs.declared.Next.{Next}
use Rattle.command.specs.declared.Next.TheVariants.{Number, End, Neither}
use Rattle.std.specs.Prelude.{Option, Some, None}
use Rattle.command.specs.declared.Question.TheVariants.{Price, Bill, Reprice, Strike, Restore, Compare, Replay}
use Rattle.command.specs.declared.Query.TheVariants.{Settled, Uses, Check, CheckOrder}
use Rattle.command.specs.declared.Command.{Command}
use Rattle.command.specs.declared.Command.TheVariants.{Ask, Append, Mean, Misuse}
use Rattle.command.specs.declared.Line.{Line}
use Rattle.command.specs.Command.{
  most_numbers,
  number_limit,
  named,
  price_word,
  bill_word,
  uses_word,
  reprice_word,
  strike_word,
  restore_word,
  append_word,
  check_order_word,
  check_word,
  mean_word,
  compare_word,
  replay_word,
  name_in,
  as_next,
  found_number,
  on_separator,
  next_at,
  Gathered,
  gathered,
  on_next,
  numbers_from,
  takes,
  as_command,
  line,
  line_of,
  CommandLine,
  command_in,
}
use Rattle.command.specs.Words.{word_of, numbers_of, words_of, Typable, typed, ReadAs}
use Rattle.command.proofs.Laws.{at_end, with_command, command_with}
use Rattle.reply.specs.Reply.{misused}
use Rattle.desk.specs.Desk.{desk_said}
use Rattle.desk.proofs.Laws.{words_misused}

abbrev zeros : List ℕ
zeros = replicate most_numbers 0

-- every number has at most eighteen digits
abbrev Short : List ℕ → Type 0
Short xs = (i : ℕ) → i < length xs → get_or xs i 0 < number_limit

pub one_number : (x : ℕ) (xs rest : List ℕ) → tail_text (x ∷ xs) ++ rest ≡ 32 ∷ (digits x ++ (tail_text xs ++ rest))
unfolding tail_text
one_number x xs rest = ap (λ (z : List ℕ). 32 ∷ z) (append_assoc (digits x) (tail_text xs) rest)

-- Words that are typed ---------------------------------------------------------------------------------------------------------------------------

next_number : (s : List ℕ) (at v : ℕ) (rest : List ℕ) → drop at s ≡ 32 ∷ (digits v ++ rest) → v < number_limit → Stops rest → next_at s at ≡ Number v (at + 1 + length (digits v))
unfolding next_at found_number
next_number s at v rest e l h =
    ap (on_separator s) (space_found s at (digits v ++ rest) e)
    ∙ ap (λ (t : Token). as_next t.stop t.found) (number_found s rest (at + 1) number_limit v (behind s (32 ∷ []) (digits v ++ rest) at e) l h)

next_end : (s : List ℕ) (at : ℕ) → drop at s ≡ 10 ∷ [] → next_at s at ≡ End
unfolding next_at
next_end s at e =
    let l = length-drop at s in
    let k : length (drop at s) ≡ 1 = ap length e in
    ap (on_separator s) (end_found s at [] e) ∙ rw (le-leb (length s) (at + 1) (omega arith))

-- a space or an LF follows a number
stops_behind : (xs : List ℕ) → Stops (tail_text xs ++ 10 ∷ [])
unfolding tail_text digit_of
stops_behind [] = omega arith
stops_behind (x ∷ xs) = omega arith

numbers_back : (xs : List ℕ) (left : ℕ) (s : List ℕ) (at i : ℕ) (done old : List ℕ) → Short xs → length done ≡ i → length xs ≤ left → i + left ≡ length old
    → drop at s ≡ tail_text xs ++ 10 ∷ [] → numbers_from left s at i (filled done old) ≡ gathered (Some (i + length xs)) (filled (done ++ xs) old)
unfolding numbers_from
numbers_back [] left s at i done old b d h f e =
    let p : i ≡ i + 0 = omega arith in
    at_end s at i (filled done old) left (next_end s at (unfold tail_text in e))
    ∙ ap₂ (λ (x : ℕ) (z : List ℕ). gathered (Some x) (filled z old)) p (sym (append-nil done))
numbers_back (x ∷ xs) zero s at i done old b d h f e = absurd (omega arith)
numbers_back (x ∷ xs) (suc left) s at i done old b d h f e =
    let stop = at + 1 + length (digits x) in
    let rest : List ℕ = tail_text xs ++ 10 ∷ [] in
    let e1 : drop at s ≡ 32 ∷ (digits x ++ rest) = e ∙ one_number x xs (10 ∷ []) in
    let e2 : drop (at + 1) s ≡ digits x ++ rest = behind s (32 ∷ []) (digits x ++ rest) at e1 in
    let e3 : drop stop s ≡ rest = behind s (digits x) rest (at + 1) e2 in
    let l : length (done ++ x ∷ []) ≡ i + 1 = length-append done (x ∷ []) ∙ ap (λ (k : ℕ). k + 1) d in
    let p : i + 1 + length xs ≡ i + length (x ∷ xs) = omega arith in
    ap (λ (z : Next). on_next z i (filled done old) (λ v next. numbers_from left s next (i + 1) (set (filled done old) i v)))
    (next_number s at x rest e1 (b 0 (omega arith)) (stops_behind xs))
    ∙ ap (λ (z : List ℕ). numbers_from left s stop (i + 1) z) (filled-set done old i x d (omega arith))
    ∙ numbers_back xs left s stop (i + 1) (done ++ x ∷ []) old (λ j q. b (suc j) (omega arith)) l (omega arith) (omega arith) e3
    ∙ ap₂ (λ (k : ℕ) (z : List ℕ). gathered (Some k) (filled z old)) p (append_snoc done x xs)

-- the word of a name, and after it as many numbers as the name takes
module _ (x : Name) (w ns : List ℕ) (name_is : name_in (w ++ (tail_text ns ++ 10 ∷ [])) ≡ named x (length w)) (few : length ns ≤ most_numbers) (b : Short ns) (t : takes x (length ns) ≡ true)
    (k : Command) (q : as_command x (get_or (filled ns zeros) 0 0) (get_or (filled ns zeros) 1 0) ≡ k) where
  abbrev words : List ℕ
  words = w ++ (tail_text ns ++ 10 ∷ [])

  came : gathered (Some (length ns)) (filled ns zeros) ≡ numbers_from (length zeros) words (length w) 0 zeros
  came =
      let long : length zeros ≡ most_numbers = length-replicate {A = ℕ} most_numbers 0 in
      let all : 0 + length ns ≡ length ns = omega arith in
      sym (ap (numbers_from (length zeros) words (length w) 0) (filled_none zeros)
      ∙ numbers_back ns (length zeros) words (length w) 0 [] zeros b refl (omega arith) refl (drop-append_seam w (tail_text ns ++ 10 ∷ []))
      ∙ ap (λ (n : ℕ). gathered (Some n) (filled ns zeros)) all)

  line_read : record { line = line k (length ns); numbers = filled ns zeros } ≡ command_in words zeros
  line_read =
      command_with words zeros (named x (length w)) (Some (length ns)) (filled ns zeros) (sym name_is) came (length ns) (line k (length ns)) refl
      (with_command x (length ns) (filled ns zeros) k t (sym q))

  reads : ReadAs words k ns
  reads = record {
    command = ap (λ (z : CommandLine). z.line.command) (sym line_read);
    count = ap (λ (z : CommandLine). z.line.count) (sym line_read);
    column = ap (λ (z : CommandLine). take (length ns) z.numbers) (sym line_read) ∙ take-filled ns zeros (length ns) refl;
  }

pub words_read : (k : Command) (needed : List ℕ) → Typable k needed → ReadAs (words_of k needed) k (numbers_of k needed)
unfolding words_of word_of numbers_of agreeing filled
words_read (Ask (Settled Price)) ns t = reads name.Price price_word [] refl t.few t.below refl _ refl
words_read (Ask (Settled (Bill v))) ns t = reads name.Bill bill_word (v.0 ∷ []) refl t.few t.below refl _ refl
words_read (Ask (Settled (Reprice e w))) ns t = reads name.Reprice reprice_word (e.0 ∷ w.0 ∷ []) refl t.few t.below refl _ refl
words_read (Ask (Settled (Strike e))) ns t = reads name.Strike strike_word (e.0 ∷ []) refl t.few t.below refl _ refl
words_read (Ask (Settled (Restore e))) ns t = reads name.Restore restore_word (e.0 ∷ []) refl t.few t.below refl _ refl
words_read (Ask (Settled Compare)) ns t = reads name.Compare compare_word [] refl t.few t.below refl _ refl
words_read (Ask (Settled Replay)) ns t = reads name.Replay replay_word [] refl t.few t.below refl _ refl
words_read (Ask (Uses v)) ns t = reads name.Uses uses_word (v.0 ∷ []) refl t.few t.below refl _ refl
words_read (Ask Check) ns t = reads name.Check check_word [] (unfold tail_text in refl) t.few t.below refl _ refl
words_read (Ask CheckOrder) ns t = reads name.CheckOrder check_order_word [] refl t.few t.below refl _ refl
words_read (Append h w) ns t = reads name.Append append_word (h.0 ∷ w.0 ∷ ns) refl t.few t.below (le-leb 2 (length (h.0 ∷ w.0 ∷ ns)) (omega arith)) _ refl
words_read Mean ns t = reads name.Mean mean_word [] refl t.few t.below refl _ refl
words_read Misuse ns t = absurd (t.command refl)

-- Words that are read ----------------------------------------------------------------------------------------------------------------------------

-- a text starts with the bytes of a word that agree with it
pub starts : (w s : List ℕ) → length w ≤ agreeing w s → s ≡ w ++ drop (length w) s
unfolding agreeing
starts [] s = λ h. refl
starts (w ∷ ws) [] = λ h. absurd (omega arith)
starts (w ∷ ws) (b ∷ s) =
    pick_by (λ (k : ℕ). length (w ∷ ws) ≤ k → b ∷ s ≡ w ∷ (ws ++ drop (length ws) s)) (eqb b w)
    (λ e h. ap₂ (λ (x : ℕ) (l : List ℕ). x ∷ l) (eqb-true b w e) (starts ws s (omega arith))) (λ e h. absurd (omega arith))

abbrev name_word : Name → List ℕ
name_word name.Price = price_word
name_word name.Bill = bill_word
name_word name.Uses = uses_word
name_word name.Reprice = reprice_word
name_word name.Strike = strike_word
name_word name.Restore = restore_word
name_word name.Append = append_word
name_word name.Check = check_word
name_word name.CheckOrder = check_order_word
name_word name.Mean = mean_word
name_word name.Compare = compare_word
name_word name.Replay = replay_word
name_word name.Unknown = []

-- a line starts with the word of its name
name_text : (s : List ℕ) → s ≡ name_word (name_in s).name ++ drop (name_in s).stop s
name_text s =
    let P : Named → Type 0 = λ z. s ≡ name_word z.name ++ drop z.stop s in
    let by : (w : List ℕ) → eqb (agreeing w s) (length w) ≡ true → s ≡ w ++ drop (length w) s = λ w e. starts w s (omega (arith, eqb-true (agreeing w s) (length w) e)) in
    pick_by P (eqb (agreeing price_word s) 5) (λ e. by price_word e) (λ _.
    pick_by P (eqb (agreeing bill_word s) 4) (λ e. by bill_word e) (λ _.
    pick_by P (eqb (agreeing uses_word s) 4) (λ e. by uses_word e) (λ _.
    pick_by P (eqb (agreeing reprice_word s) 7) (λ e. by reprice_word e) (λ _.
    pick_by P (eqb (agreeing strike_word s) 6) (λ e. by strike_word e) (λ _.
    pick_by P (eqb (agreeing restore_word s) 7) (λ e. by restore_word e) (λ _.
    pick_by P (eqb (agreeing append_word s) 6) (λ e. by append_word e) (λ _.
    pick_by P (eqb (agreeing check_order_word s) 11) (λ e. by check_order_word e) (λ _.
    pick_by P (eqb (agreeing check_word s) 5) (λ e. by check_word e) (λ _.
    pick_by P (eqb (agreeing mean_word s) 4) (λ e. by mean_word e) (λ _.
    pick_by P (eqb (agreeing compare_word s) 7) (λ e. by compare_word e) (λ _.
    pick_by P (eqb (agreeing replay_word s) 6) (λ e. by replay_word e) (λ _. refl))))))))))))

-- what follows a name or a number
abbrev NextText : List ℕ → ℕ → Next → Type 0
NextText s at (Number v stop) = (v < number_limit) × (drop at s ≡ 32 ∷ (digits v ++ drop stop s))
NextText s at End = drop at s ≡ 10 ∷ []
NextText s at Neither = Unit {0}

found_text : (s : List ℕ) (at from start stop : ℕ) (f : Option ℕ) → drop at s ≡ 32 ∷ drop from s → number_at s from number_limit ≡ token start stop f → NextText s at (as_next stop f)
found_text s at from start stop (Some v) q e =
    ((number_counts s from number_limit start stop v e).0, q ∙ ap (λ (z : List ℕ). 32 ∷ z) (number_text s from number_limit start stop v e))
found_text s at from start stop None q e = tt

separator_text : (s : List ℕ) (at : ℕ) (x : Separator) → separator_at s at ≡ x → NextText s at (on_separator s x)
unfolding found_number
separator_text s at (separator.Space i) e =
    let t = number_at s i number_limit in
    found_text s at i t.start t.stop t.found (space_text s at i e) refl
separator_text s at (separator.LineEnd i) e =
    pick_by (NextText s at) (leb (length s) i) (λ l. end_text s at i e ∙ ap (λ (z : List ℕ). 10 ∷ z) (drop_of_length-le s (leb-true (length s) i l))) (λ _. tt)
separator_text s at separator.Neither e = tt

next_text : (s : List ℕ) (at : ℕ) → NextText s at (next_at s at)
unfolding next_at
next_text s at = separator_text s at (separator_at s at) refl

-- the bytes from a place on are these numbers and the line's end
record Stands (left : ℕ) (s : List ℕ) (at i : ℕ) (done old : List ℕ) (n : ℕ) (column : List ℕ) : Type 0 where
  xs : List ℕ
  bytes : drop at s ≡ tail_text xs ++ 10 ∷ []
  count : n ≡ i + length xs
  few : length xs ≤ left
  short : Short xs
  column_is : column ≡ filled (done ++ xs) old

abbrev StandsBy : (left : ℕ) → List ℕ → (at i : ℕ) → (done old : List ℕ) → Option ℕ → List ℕ → Type 0
StandsBy left s at i done old (Some n) c = Stands left s at i done old n c
StandsBy left s at i done old None c = Unit {0}

short-more : (v : ℕ) (xs : List ℕ) → v < number_limit → Short xs → Short (v ∷ xs)
short-more v xs h f zero l = h
short-more v xs h f (suc j) l = f j (omega arith)

module _ (s : List ℕ) (at i : ℕ) (done old : List ℕ) where
  stands_none : (left : ℕ) → drop at s ≡ 10 ∷ [] → Stands left s at i done old i (filled done old)
  stands_none left e = record {
    xs = [];
    bytes = unfold tail_text in e;
    count = omega arith;
    few = omega arith;
    short = λ j l. absurd (omega arith);
    column_is = ap (λ (z : List ℕ). filled z old) (sym (append-nil done));
  }

  stands_more : (left v stop : ℕ) (n : Option ℕ) (c : List ℕ) → v < number_limit → drop at s ≡ 32 ∷ (digits v ++ drop stop s)
      → StandsBy left s stop (i + 1) (done ++ v ∷ []) old n c → StandsBy (suc left) s at i done old n c
  stands_more left v stop (Some n) c l e S = record {
    xs = v ∷ S.xs;
    bytes = e ∙ ap (λ (z : List ℕ). 32 ∷ (digits v ++ z)) S.bytes ∙ sym (one_number v S.xs (10 ∷ []));
    count = omega (arith, S.count);
    few = omega (arith, S.few);
    short = short-more v S.xs l S.short;
    column_is = S.column_is ∙ ap (λ (z : List ℕ). filled z old) (append_snoc done v S.xs);
  }
  stands_more left v stop None c l e S = tt

  by_next : (left : ℕ) (x : Next) (more : (v stop : ℕ) → Gathered) → NextText s at x
      → ((v stop : ℕ) → v < number_limit → drop at s ≡ 32 ∷ (digits v ++ drop stop s) → StandsBy left s at i done old (more v stop).numbers (more v stop).column)
      → let g = on_next x i (filled done old) more in StandsBy left s at i done old g.numbers g.column
  by_next left End more e f = stands_none left e
  by_next left Neither more e f = tt
  by_next left (Number v stop) more e f = f v stop e.0 e.1

gathered_text : (left : ℕ) (s : List ℕ) (at i : ℕ) (done old : List ℕ) → length done ≡ i → i + left ≡ length old
    → let g = numbers_from left s at i (filled done old) in StandsBy left s at i done old g.numbers g.column
unfolding numbers_from
gathered_text zero s at i done old d f = by_next s at i done old zero (next_at s at) (λ v stop. gathered None (filled done old)) (next_text s at) (λ v stop l e. tt)
gathered_text (suc left) s at i done old d f =
    by_next s at i done old (suc left) (next_at s at) (λ v stop. numbers_from left s stop (i + 1) (set (filled done old) i v)) (next_text s at)
    (λ v stop l e.
    let P : List ℕ → Type 0 = λ c. let g = numbers_from left s stop (i + 1) c in StandsBy (suc left) s at i done old g.numbers g.column in
    let k : length (done ++ v ∷ []) ≡ i + 1 = length-append done (v ∷ []) ∙ ap (λ (z : ℕ). z + 1) d in
    let g = numbers_from left s stop (i + 1) (filled (done ++ v ∷ []) old) in
    subst P (sym (filled-set done old i v d (omega arith)))
    (stands_more s at i done old left v stop g.numbers g.column l e (gathered_text left s stop (i + 1) (done ++ v ∷ []) old k (omega arith))))

-- a name with as many numbers as it takes is a command
record Commanded (x : Name) (ns : List ℕ) : Type 0 where
  command : Command
  needed : List ℕ
  proper : ¬ (command ≡ Misuse)
  word : name_word x ≡ word_of command
  numbers : ns ≡ numbers_of command needed

abbrev Proper : Command → Type 0
Proper (Ask q) = Unit {0}
Proper (Append h w) = Unit {0}
Proper Mean = Unit {0}
Proper Misuse = ⊥

commanded : {x : Name} {ns : List ℕ} (k : Command) (needed : List ℕ) → Proper k → name_word x ≡ word_of k → ns ≡ numbers_of k needed → Commanded x ns
commanded k needed p e f = record { command = k; needed = needed; proper = λ q. subst Proper q p; word = e; numbers = f }

module _ (P : List ℕ → Type 0) where
  by_none : P [] → (ns : List ℕ) → eqb (length ns) 0 ≡ true → P ns
  by_none p [] e = p
  by_none p (a ∷ ns) e = absurd (omega (arith, eqb-true (length (a ∷ ns)) 0 e))

  by_one : ((a : ℕ) → P (a ∷ [])) → (ns : List ℕ) → eqb (length ns) 1 ≡ true → P ns
  by_one p [] e = absurd (omega (arith, eqb-true (length {A = ℕ} []) 1 e))
  by_one p (a ∷ []) e = p a
  by_one p (a ∷ b ∷ ns) e = absurd (omega (arith, eqb-true (length (a ∷ b ∷ ns)) 1 e))

  by_two : ((a b : ℕ) → P (a ∷ b ∷ [])) → (ns : List ℕ) → eqb (length ns) 2 ≡ true → P ns
  by_two p [] e = absurd (omega (arith, eqb-true (length {A = ℕ} []) 2 e))
  by_two p (a ∷ []) e = absurd (omega (arith, eqb-true (length (a ∷ [])) 2 e))
  by_two p (a ∷ b ∷ []) e = p a b
  by_two p (a ∷ b ∷ c ∷ ns) e = absurd (omega (arith, eqb-true (length (a ∷ b ∷ c ∷ ns)) 2 e))

  by_more : ((a b : ℕ) (xs : List ℕ) → P (a ∷ b ∷ xs)) → (ns : List ℕ) → leb 2 (length ns) ≡ true → P ns
  by_more p [] e = absurd (omega (arith, leb-true 2 (length {A = ℕ} []) e))
  by_more p (a ∷ []) e = absurd (omega (arith, leb-true 2 (length (a ∷ [])) e))
  by_more p (a ∷ b ∷ ns) e = p a b ns

is_command : (x : Name) (ns : List ℕ) → takes x (length ns) ≡ true → Commanded x ns
unfolding word_of numbers_of
is_command name.Price = by_none (Commanded name.Price) (commanded (Ask (Settled Price)) [] tt refl refl)
is_command name.Bill = by_one (Commanded name.Bill) (λ a. commanded (Ask (Settled (Bill (record { 0 = a })))) [] tt refl refl)
is_command name.Uses = by_one (Commanded name.Uses) (λ a. commanded (Ask (Uses (record { 0 = a }))) [] tt refl refl)
is_command name.Reprice = by_two (Commanded name.Reprice) (λ a b. commanded (Ask (Settled (Reprice (record { 0 = a }) (record { 0 = b })))) [] tt refl refl)
is_command name.Strike = by_one (Commanded name.Strike) (λ a. commanded (Ask (Settled (Strike (record { 0 = a })))) [] tt refl refl)
is_command name.Restore = by_one (Commanded name.Restore) (λ a. commanded (Ask (Settled (Restore (record { 0 = a })))) [] tt refl refl)
is_command name.Append = by_more (Commanded name.Append) (λ a b xs. commanded (Append (record { 0 = a }) (record { 0 = b })) xs tt refl refl)
is_command name.Check = by_none (Commanded name.Check) (commanded (Ask Check) [] tt refl refl)
is_command name.CheckOrder = by_none (Commanded name.CheckOrder) (commanded (Ask CheckOrder) [] tt refl refl)
is_command name.Mean = by_none (Commanded name.Mean) (commanded Mean [] tt refl refl)
is_command name.Compare = by_none (Commanded name.Compare) (commanded (Ask (Settled Compare)) [] tt refl refl)
is_command name.Replay = by_none (Commanded name.Replay) (commanded (Ask (Settled Replay)) [] tt refl refl)
is_command name.Unknown = λ ns t. apart t

-- these words are the words of a command
pub record WordsOf (words : List ℕ) : Type 0 where
  pub command : Command
  pub needed : List ℕ
  pub typable : Typable command needed
  pub same : words ≡ words_of command needed

module _ (words : List ℕ) where
  abbrev begun : Named
  begun = name_in words

  typed_by : (n : ℕ) (column : List ℕ) → Stands (length zeros) words begun.stop 0 [] zeros n column → takes begun.name n ≡ true → WordsOf words
  unfolding words_of
  typed_by n column S t =
      let q : n ≡ length S.xs = omega (arith, S.count) in
      let C = is_command begun.name S.xs (sym (ap (takes begun.name) q) ∙ t) in
      let long = length-replicate {A = ℕ} most_numbers 0 in
      record {
        command = C.command;
        needed = C.needed;
        typable = record {
          command = C.proper;
          few = subst (λ (z : List ℕ). length z ≤ most_numbers) C.numbers (omega (arith, S.few, long));
          below = subst Short C.numbers S.short;
        };
        same = name_text words ∙ ap₂ (λ (u v : List ℕ). u ++ v) C.word (S.bytes ∙ ap (λ (z : List ℕ). tail_text z ++ 10 ∷ []) C.numbers);
      }

  line_is : (n : Option ℕ) (c : List ℕ) → StandsBy (length zeros) words begun.stop 0 [] zeros n c → (line_of begun.name n c ≡ line Misuse 0) ⊎ WordsOf words
  line_is (Some n) c S = pick_by (λ (l : Line). (l ≡ line Misuse 0) ⊎ WordsOf words) (takes begun.name n) (λ t. inr (typed_by n c S t)) (λ _. inl refl)
  line_is None c S = inl refl

  -- a line of words is misuse, or the words of a command
  pub words_are : ((typed words).line ≡ line Misuse 0) ⊎ WordsOf words
  unfolding command_in
  words_are =
      let g = numbers_from (length zeros) words begun.stop 0 zeros in
      let P : List ℕ → Type 0 = λ c. let h = numbers_from (length zeros) words begun.stop 0 c in StandsBy (length zeros) words begun.stop 0 [] zeros h.numbers h.column in
      line_is g.numbers g.column (subst P (sym (filled_none zeros)) (gathered_text (length zeros) words begun.stop 0 [] zeros refl refl))

-- words of no command are misuse
pub words_misuse : (words : List ℕ) → ((k : Command) (needed : List ℕ) → Typable k needed → ¬ (words ≡ words_of k needed)) → (input second : List ℕ) → desk_said words input second ≡ misused
words_misuse words n input second =
    let l = typed words in
    ⊎_elim (λ e. sym (words_misused words input second l.line l.numbers refl (ap (λ (x : Line). x.command) e)))
    (λ w. absurd (n w.command w.needed w.typable w.same)) (words_are words)

-- The paper's worked text, and texts that break the form: what the definitions give for them. Assumes nothing.
use Prim.Native.Nat.{ℕ}
use mathlib.Core.Path.{◌≡◌, refl}
use mathlib.Core.List.{List, [], ◌∷◌, ◌++◌}
use Rattle.weights.specs.declared.Measure.{Measure}
use Rattle.weights.specs.declared.Measure.TheVariants.{Cost, Days, Grade}
use Rattle.columns.specs.Columns.{Columns, columns}
use Rattle.columns.specs.Worked.{worked}
use Rattle.text.specs.Tables.{edge, Table, edges_from, table_of, closed, listed_in_all, each_of, spans_from, tails_of}
use Rattle.text.specs.Render.{digits_on, digits, word, first_word, measure_text, header, mark_text, own_text, tail_text, edge_text, edges_text, table_text, render}
use Rattle.text.specs.Worked.{cost_text, days_text, grade_text}
use Rattle.text.specs.Machine.{limit, line_at, digit_of, grown, instead, after, spell, named, ended, step, run, Whole, Wrong, finish, parse}
use Rattle.text.specs.Bytes.{survived, column_from, column_of}

-- the paper's table, with gaps before the first span, between two and behind the last
gapped : Columns
gapped = columns 5 worked.heads worked.own worked.strikes (0 ∷ 0 ∷ 1 ∷ 0 ∷ 1 ∷ 2 ∷ 3 ∷ 0 ∷ 3 ∷ 3 ∷ 7 ∷ 1 ∷ []) (9 ∷ 0 ∷ 1 ∷ 2 ∷ 1 ∷ 1 ∷ 9 ∷ 4 ∷ 9 ∷ [])

rendered : render Cost gapped ≡ cost_text
unfolding gapped cost_text edges_from digits_on digits word first_word measure_text header mark_text own_text tail_text edge_text edges_text table_text
rendered = refl

rendered_days : render Days gapped ≡ days_text
unfolding gapped days_text edges_from digits_on digits word first_word measure_text header mark_text own_text tail_text edge_text edges_text table_text
rendered_days = refl

rendered_grade : render Grade gapped ≡ grade_text
unfolding gapped grade_text edges_from digits_on digits word first_word measure_text header mark_text own_text tail_text edge_text edges_text table_text
rendered_grade = refl

read_back : parse cost_text ≡ Whole (table_of Cost gapped)
unfolding gapped cost_text edges_from first_word listed_in_all limit line_at digit_of grown instead after spell named ended step run finish parse
read_back = refl

gaps_closed : closed gapped ≡ worked
unfolding gapped edges_from each_of spans_from tails_of
gaps_closed = refl

-- `parts 5`, `parts 5 cost` and `parts 5 grade`, LF behind each: what each measure's first line is read as
abbrev lineless : Measure → Table
lineless m = record { vertices = 5; measure = m; edges = [] }

without_a_word : parse (112 ∷ 97 ∷ 114 ∷ 116 ∷ 115 ∷ 32 ∷ 53 ∷ 10 ∷ []) ≡ Whole (lineless Days)
unfolding first_word listed_in_all limit line_at digit_of grown instead after spell named ended step run finish parse
without_a_word = refl

with_the_word : parse (112 ∷ 97 ∷ 114 ∷ 116 ∷ 115 ∷ 32 ∷ 53 ∷ 32 ∷ 99 ∷ 111 ∷ 115 ∷ 116 ∷ 10 ∷ []) ≡ Whole (lineless Cost)
unfolding first_word listed_in_all limit line_at digit_of grown instead after spell named ended step run finish parse
with_the_word = refl

with_grade : parse (112 ∷ 97 ∷ 114 ∷ 116 ∷ 115 ∷ 32 ∷ 53 ∷ 32 ∷ 103 ∷ 114 ∷ 97 ∷ 100 ∷ 101 ∷ 10 ∷ []) ≡ Whole (lineless Grade)
unfolding first_word listed_in_all limit line_at digit_of grown instead after spell named ended step run finish parse
with_grade = refl

-- `parts 5`, LF, `0 `, an own figure, LF
abbrev days_line : List ℕ → List ℕ
days_line own = 112 ∷ 97 ∷ 114 ∷ 116 ∷ 115 ∷ 32 ∷ 53 ∷ 10 ∷ 48 ∷ 32 ∷ (own ++ 10 ∷ [])

abbrev days_table : (own mark : ℕ) → Table
days_table own mark = record { vertices = 5; measure = Days; edges = edge 0 own mark [] ∷ [] }

-- `500`, `-500`, `-0`, `-1000000000`: a struck line keeps its figure
five_hundred : parse (days_line (53 ∷ 48 ∷ 48 ∷ [])) ≡ Whole (days_table 500 0)
unfolding first_word listed_in_all limit line_at digit_of grown instead after spell named ended step run finish parse
five_hundred = refl

struck_five_hundred : parse (days_line (45 ∷ 53 ∷ 48 ∷ 48 ∷ [])) ≡ Whole (days_table 500 1)
unfolding first_word listed_in_all limit line_at digit_of grown instead after spell named ended step run finish parse
struck_five_hundred = refl

struck_zero : parse (days_line (45 ∷ 48 ∷ [])) ≡ Whole (days_table 0 1)
unfolding first_word listed_in_all limit line_at digit_of grown instead after spell named ended step run finish parse
struck_zero = refl

struck_greatest : parse (days_line (45 ∷ 49 ∷ 48 ∷ 48 ∷ 48 ∷ 48 ∷ 48 ∷ 48 ∷ 48 ∷ 48 ∷ 48 ∷ [])) ≡ Whole (days_table 1000000000 1)
unfolding first_word listed_in_all limit line_at digit_of grown instead after spell named ended step run finish parse
struck_greatest = refl

-- `-`, `- 5`, `--5`, `-05`, `-1000000001`, `1000000001`
bare_dash : parse (days_line (45 ∷ [])) ≡ Wrong 2
unfolding first_word listed_in_all limit line_at digit_of grown instead after spell named ended step run finish parse
bare_dash = refl

dash_space : parse (days_line (45 ∷ 32 ∷ 53 ∷ [])) ≡ Wrong 2
unfolding first_word listed_in_all limit line_at digit_of grown instead after spell named ended step run finish parse
dash_space = refl

two_dashes : parse (days_line (45 ∷ 45 ∷ 53 ∷ [])) ≡ Wrong 2
unfolding first_word listed_in_all limit line_at digit_of grown instead after spell named ended step run finish parse
two_dashes = refl

dash_zero_five : parse (days_line (45 ∷ 48 ∷ 53 ∷ [])) ≡ Wrong 2
unfolding first_word listed_in_all limit line_at digit_of grown instead after spell named ended step run finish parse
dash_zero_five = refl

dash_too_great : parse (days_line (45 ∷ 49 ∷ 48 ∷ 48 ∷ 48 ∷ 48 ∷ 48 ∷ 48 ∷ 48 ∷ 48 ∷ 49 ∷ [])) ≡ Wrong 2
unfolding first_word listed_in_all limit line_at digit_of grown instead after spell named ended step run finish parse
dash_too_great = refl

too_great : parse (days_line (49 ∷ 48 ∷ 48 ∷ 48 ∷ 48 ∷ 48 ∷ 48 ∷ 48 ∷ 48 ∷ 49 ∷ [])) ≡ Wrong 2
unfolding first_word listed_in_all limit line_at digit_of grown instead after spell named ended step run finish parse
too_great = refl

-- The place of what is refused, line and column ------------------------------------------------------------------------------------------

abbrev Refuses : List ℕ → (line column : ℕ) → Type 0
Refuses s l c = (parse s ≡ Wrong l) × (column_of s ≡ c)

-- `parts 5`, LF
abbrev five : List ℕ → List ℕ
five rest = 112 ∷ 97 ∷ 114 ∷ 116 ∷ 115 ∷ 32 ∷ 53 ∷ 10 ∷ rest

-- no byte
empty : Refuses [] 1 1
unfolding column_of column_from survived first_word listed_in_all limit line_at digit_of grown instead after spell named ended step run finish parse
empty = (refl, refl)

-- LF alone
lone_end : Refuses (10 ∷ []) 1 1
unfolding column_of column_from survived first_word listed_in_all limit line_at digit_of grown instead after spell named ended step run finish parse
lone_end = (refl, refl)

-- `part 5`, LF
part_five : Refuses (112 ∷ 97 ∷ 114 ∷ 116 ∷ 32 ∷ 53 ∷ 10 ∷ []) 1 5
unfolding column_of column_from survived first_word listed_in_all limit line_at digit_of grown instead after spell named ended step run finish parse
part_five = (refl, refl)

-- `parts 5` without LF
no_end : Refuses (112 ∷ 97 ∷ 114 ∷ 116 ∷ 115 ∷ 32 ∷ 53 ∷ []) 1 8
unfolding column_of column_from survived first_word listed_in_all limit line_at digit_of grown instead after spell named ended step run finish parse
no_end = (refl, refl)

-- `parts 05`, LF
leading_zero : Refuses (112 ∷ 97 ∷ 114 ∷ 116 ∷ 115 ∷ 32 ∷ 48 ∷ 53 ∷ 10 ∷ []) 1 8
unfolding column_of column_from survived first_word listed_in_all limit line_at digit_of grown instead after spell named ended step run finish parse
leading_zero = (refl, refl)

-- `parts 1025`, LF
too_many_vertices : Refuses (112 ∷ 97 ∷ 114 ∷ 116 ∷ 115 ∷ 32 ∷ 49 ∷ 48 ∷ 50 ∷ 53 ∷ 10 ∷ []) 1 10
unfolding column_of column_from survived first_word listed_in_all limit line_at digit_of grown instead after spell named ended step run finish parse
too_many_vertices = (refl, refl)

-- `parts 5 days`, LF
days_named : Refuses (112 ∷ 97 ∷ 114 ∷ 116 ∷ 115 ∷ 32 ∷ 53 ∷ 32 ∷ 100 ∷ 97 ∷ 121 ∷ 115 ∷ 10 ∷ []) 1 9
unfolding column_of column_from survived first_word listed_in_all limit line_at digit_of grown instead after spell named ended step run finish parse
days_named = (refl, refl)

-- `parts 5 costs`, LF
longer_word : Refuses (112 ∷ 97 ∷ 114 ∷ 116 ∷ 115 ∷ 32 ∷ 53 ∷ 32 ∷ 99 ∷ 111 ∷ 115 ∷ 116 ∷ 115 ∷ 10 ∷ []) 1 13
unfolding column_of column_from survived first_word listed_in_all limit line_at digit_of grown instead after spell named ended step run finish parse
longer_word = (refl, refl)

-- `parts 5 c` without LF
word_begun : Refuses (112 ∷ 97 ∷ 114 ∷ 116 ∷ 115 ∷ 32 ∷ 53 ∷ 32 ∷ 99 ∷ []) 1 10
unfolding column_of column_from survived first_word listed_in_all limit line_at digit_of grown instead after spell named ended step run finish parse
word_begun = (refl, refl)

-- `parts 5 Cost`, LF
capital_word : Refuses (112 ∷ 97 ∷ 114 ∷ 116 ∷ 115 ∷ 32 ∷ 53 ∷ 32 ∷ 67 ∷ 111 ∷ 115 ∷ 116 ∷ 10 ∷ []) 1 9
unfolding column_of column_from survived first_word listed_in_all limit line_at digit_of grown instead after spell named ended step run finish parse
capital_word = (refl, refl)

-- `parts 5 grape`, LF
other_letter : Refuses (112 ∷ 97 ∷ 114 ∷ 116 ∷ 115 ∷ 32 ∷ 53 ∷ 32 ∷ 103 ∷ 114 ∷ 97 ∷ 112 ∷ 101 ∷ 10 ∷ []) 1 12
unfolding column_of column_from survived first_word listed_in_all limit line_at digit_of grown instead after spell named ended step run finish parse
other_letter = (refl, refl)

-- `parts 5 grades`, LF
longer_grade : Refuses (112 ∷ 97 ∷ 114 ∷ 116 ∷ 115 ∷ 32 ∷ 53 ∷ 32 ∷ 103 ∷ 114 ∷ 97 ∷ 100 ∷ 101 ∷ 115 ∷ 10 ∷ []) 1 14
unfolding column_of column_from survived first_word listed_in_all limit line_at digit_of grown instead after spell named ended step run finish parse
longer_grade = (refl, refl)

-- `parts 5 g` without LF
grade_begun : Refuses (112 ∷ 97 ∷ 114 ∷ 116 ∷ 115 ∷ 32 ∷ 53 ∷ 32 ∷ 103 ∷ []) 1 10
unfolding column_of column_from survived first_word listed_in_all limit line_at digit_of grown instead after spell named ended step run finish parse
grade_begun = (refl, refl)

-- `parts 5`, a space, LF
no_word : Refuses (112 ∷ 97 ∷ 114 ∷ 116 ∷ 115 ∷ 32 ∷ 53 ∷ 32 ∷ 10 ∷ []) 1 9
unfolding column_of column_from survived first_word listed_in_all limit line_at digit_of grown instead after spell named ended step run finish parse
no_word = (refl, refl)

-- `parts 0`, LF, and any line
no_vertex : Refuses (112 ∷ 97 ∷ 114 ∷ 116 ∷ 115 ∷ 32 ∷ 48 ∷ 10 ∷ 48 ∷ 32 ∷ 48 ∷ 10 ∷ []) 2 1
unfolding column_of column_from survived first_word listed_in_all limit line_at digit_of grown instead after spell named ended step run finish parse
no_vertex = (refl, refl)

-- `parts 5`, LF, and then `0`, LF
no_own : Refuses (five (48 ∷ 10 ∷ [])) 2 2
unfolding column_of column_from survived first_word listed_in_all limit line_at digit_of grown instead after spell named ended step run finish parse
no_own = (refl, refl)

-- `0 1000000001`, LF
own_too_great : Refuses (five (48 ∷ 32 ∷ 49 ∷ 48 ∷ 48 ∷ 48 ∷ 48 ∷ 48 ∷ 48 ∷ 48 ∷ 48 ∷ 49 ∷ 10 ∷ [])) 2 12
unfolding column_of column_from survived first_word listed_in_all limit line_at digit_of grown instead after spell named ended step run finish parse
own_too_great = (refl, refl)

-- `0 -`, LF
bare_dash_place : Refuses (five (48 ∷ 32 ∷ 45 ∷ 10 ∷ [])) 2 4
unfolding column_of column_from survived first_word listed_in_all limit line_at digit_of grown instead after spell named ended step run finish parse
bare_dash_place = (refl, refl)

-- `0 5`, two spaces, `1`, LF
two_spaces : Refuses (five (48 ∷ 32 ∷ 53 ∷ 32 ∷ 32 ∷ 49 ∷ 10 ∷ [])) 2 5
unfolding column_of column_from survived first_word listed_in_all limit line_at digit_of grown instead after spell named ended step run finish parse
two_spaces = (refl, refl)

-- `0 0` and seventeen parts 0, LF
seventeen : Refuses
    (five
    (48 ∷ 32 ∷ 48 ∷ 32 ∷ 48 ∷ 32 ∷ 48 ∷ 32 ∷ 48 ∷ 32 ∷ 48 ∷ 32 ∷ 48 ∷ 32 ∷ 48 ∷ 32 ∷ 48 ∷ 32 ∷ 48 ∷ 32 ∷ 48 ∷ 32 ∷ 48 ∷ 32 ∷ 48 ∷ 32 ∷ 48 ∷ 32 ∷ 48 ∷ 32 ∷ 48 ∷ 32 ∷ 48 ∷ 32 ∷ 48 ∷ 32 ∷ 48 ∷ 10 ∷ []))
    2 36
unfolding column_of column_from survived first_word listed_in_all limit line_at digit_of grown instead after spell named ended step run finish parse
seventeen = (refl, refl)

-- `0 5 9`, LF
no_such_vertex : Refuses (five (48 ∷ 32 ∷ 53 ∷ 32 ∷ 57 ∷ 10 ∷ [])) 2 5
unfolding column_of column_from survived first_word listed_in_all limit line_at digit_of grown instead after spell named ended step run finish parse
no_such_vertex = (refl, refl)

-- `0 1`, LF, `0`
last_line_short : Refuses (five (48 ∷ 32 ∷ 49 ∷ 10 ∷ 48 ∷ [])) 3 2
unfolding column_of column_from survived first_word listed_in_all limit line_at digit_of grown instead after spell named ended step run finish parse
last_line_short = (refl, refl)

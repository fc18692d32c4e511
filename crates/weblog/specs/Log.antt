-- What a line of a log says.
use Rattle.std.specs.Prelude.{◌==◌, ℕ, Bool, ◌||◌, List, [], ℤ, pos, negsuc, int_lt, Result, Ok, Err, MatchResult, Option, Some, None, codes, if◌then◌else◌, length, bytes_eq}
use Rattle.std.specs.List.{ends_with}
use Rattle.mohairjade.specs.Words.{IsI64, number_or, piece, wrapped-value, ⊤}
use Rattle.weblog.specs.declared.line.Fault.{Fault}
use Rattle.weblog.specs.declared.line.Fault.TheVariants.{NoClient, NoTime, NoPath, NoStatus, NoBytes}
use Rattle.weblog.specs.declared.line.Name.{Name}
use Rattle.weblog.specs.declared.line.Name.TheVariants.{Client, Path}
use Rattle.weblog.specs.declared.line.Figure.{Figure}
use Rattle.weblog.specs.declared.line.Figure.TheVariants.{Status, Hour, Bytes}

-- a request: its status, hour and bytes, its client and its path
abbrev pub Content : Type 0
Content = ℤ × (ℤ × (ℤ × (List ℕ × List ℕ)))

abbrev pub IsRequest : Content → Type 0
IsRequest c = IsI64 c.0 × IsI64 c.1.0 × IsI64 c.1.1.0

-- the number of a fault
abbrev pub fault : Fault → ℤ
fault NoClient = pos 0
fault NoTime = pos 1
fault NoPath = pos 2
fault NoStatus = pos 3
fault NoBytes = pos 4

abbrev pub Line : Type 0
Line = Result Content ℤ

abbrev pub at_space : ℕ → List ℕ → List ℕ
at_space = piece (λ b. b == 32)

-- what stands before a line's first quote, between that and the second, and behind the second
abbrev pub at_quote : ℕ → List ℕ → List ℕ
at_quote = piece (λ b. b == 34)

-- the texts of these parts, empty where the part has another form
abbrev pub client : List ℕ → List ℕ
client head = if ends_with ◌==◌ (piece (λ b. b == 91) 0 head) (codes " - - ") then at_space 0 head else []

abbrev pub hour : List ℕ → List ℕ
hour head = if ends_with ◌==◌ head (codes "] ") then piece (λ b. b == 58) 1 (piece (λ b. b == 91) 1 head) else []

abbrev pub path : List ℕ → List ℕ
path asked = if length (at_space 2 asked) == 0 then [] else at_space 1 asked

abbrev pub sent : List ℕ → List ℕ
sent tail = if bytes_eq (at_space 2 tail) (codes "-") then codes "0" else at_space 2 tail

abbrev pub number : List ℕ → ℤ
number = number_or (negsuc 0)

-- a line's request, whatever the line lacks
abbrev pub request : List ℕ → Content
request line =
    let tail = at_quote 2 line in
    (number (at_space 1 tail), (number (hour (at_quote 0 line)), (number (sent tail), (client (at_quote 0 line), path (at_quote 1 line)))))

-- whether a number isn't one from the first to the last
abbrev pub outside : ℤ → ℤ → ℤ → Bool
outside first last n = int_lt n first || int_lt last n

-- what a request lacks
abbrev pub lacks : Content → Option ℤ
lacks r =
    if length r.1.1.1.0 == 0 then Some (fault NoClient) else (if outside (pos 0) (pos 23) r.1.0 then Some (fault NoTime)
    else (if length r.1.1.1.1 == 0 then Some (fault NoPath) else (if outside (pos 100) (pos 599) r.0 then Some (fault NoStatus)
    else (if int_lt r.1.1.0 (pos 0) then Some (fault NoBytes) else None))))

abbrev pub or_fault : Option ℤ → Content → Line
or_fault (Some lack) r = Err lack
or_fault None r = Ok r

-- a line's request, or the first of what it lacks
abbrev pub parsed : List ℕ → Line
parsed line = or_fault (lacks (request line)) (request line)

-- a number of a request, and 0 of a fault
abbrev pub figure : Figure → Line → ℤ
figure _ (Err _) = pos 0
figure Status (Ok r) = r.0
figure Hour (Ok r) = r.1.0
figure Bytes (Ok r) = r.1.1.0

-- a text of a request, and none of a fault
abbrev pub name : Name → Line → List ℕ
name _ (Err _) = []
name (Client _) (Ok r) = r.1.1.1.0
name (Path _) (Ok r) = r.1.1.1.1

pub figure-value : (f : Figure) (line : Line) → MatchResult line IsRequest (λ _. ⊤) → IsI64 (figure f line)
figure-value Status (Ok r) value = value.0
figure-value Hour (Ok r) value = value.1
figure-value Bytes (Ok r) value = value.2
figure-value Status (Err e) value = search
figure-value Hour (Err e) value = search
figure-value Bytes (Err e) value = search

pub or_fault-value : (lack : Option ℤ) (r : Content) → IsRequest r → MatchResult (or_fault lack r) IsRequest (λ _. ⊤)
or_fault-value (Some lack) r value = tt
or_fault-value None r value = value

pub parsed-value : (line : List ℕ) → MatchResult (parsed line) IsRequest (λ _. ⊤)
parsed-value line = or_fault-value (lacks (request line)) (request line) (wrapped-value _, wrapped-value _, wrapped-value _)

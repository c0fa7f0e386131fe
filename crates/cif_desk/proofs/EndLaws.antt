-- What a call leaves once it has told its end.
use Rattle.std.specs.Prelude.{ℕ, ◌≡◌, [], List, Option, Some, None, IsSome, Result, Ok, Err, IfErr, refl}
use Rattle.std.proofs.Common.{arith, sym, subst, inl, inr, append-nil}
use Rattle.cif_io.specs.Outside.{Files, Appends, AppendsPrefix}
use Rattle.cif_io.proofs.OutsideLaws.{Appends-nothing, Appends-same, AppendsPrefix-whole}
use Rattle.cif_defs.specs.Messages.{usage_line}
use Rattle.cif_desk.specs.Commands.{Command}
use Rattle.cif_desk.specs.Ends.{IsBeginning, WritesOut, WritesErr, MayTell, tells_usage, tells_refusal, tells_read_fault, tells_write_fault, tells_memory}
use Rattle.cif_desk.specs.Calls.{Call, HasFault, Answers}
use Rattle.cif_desk.specs.Stops.{HasCause, Says, said, unsaid, stop_line, stop_status, end_status}
use Rattle.cif_desk.specs.declared.stop.Stop.{Stop}
use Rattle.cif_desk.specs.declared.stop.Stop.TheVariants.{Usage, Refused, Unread, Unwritten, NoMemory}

-- nothing is told where the text was written
pub no_err : (told : Option Files) (asked : Option Command) (failed : List ℕ) (old : Option (List ℕ)) → WritesErr told asked failed 0 old old
no_err told asked failed old = record {
  bytes = [];
  appended = Appends-nothing refl;
  nothing = λ e. refl;
  usage = λ e. absurd (omega arith);
  refusal = λ e. absurd (omega arith);
  read_fault = λ e. absurd (omega arith);
  part = λ e. absurd (omega arith);
  memory = λ e. absurd (omega arith);
}

-- ---- a call that stops

-- words that fit no form stop by usage, so others ask for something
asked_some : (asked : Option Command) (stop : Stop) → (asked ≡ None → stop ≡ Usage) → ¬ (stop ≡ Usage) → IsSome asked
asked_some None stop f other = absurd (other (f refl))
asked_some (Some c) stop f other = refl

never_none : (asked : Option Command) → asked ≡ None → ¬ IsSome asked
never_none None e some = absurd (cc)
never_none (Some c) e some = absurd (cc)

module _ (call : Call) where
  -- what is known of a stop
  record Stopped (stop : Stop) : Type 0 where
    out : WritesOut call.told call.asked (stop_status stop) call.out.old call.out.new
    cause : HasCause call.told call.asked call.failed (HasFault call.store_faults) (HasFault call.out_faults) stop
    no_form : call.asked ≡ None → stop ≡ Usage

  may_tell : (stop : Stop) → Stopped stop → MayTell call.told call.asked call.failed (stop_line stop)
  may_tell Usage s = tells_usage s.cause refl
  may_tell (Refused line) s = tells_refusal s.cause
  may_tell (Unread line) s = tells_read_fault s.cause.1 s.cause.2
  may_tell Unwritten s = tells_write_fault (asked_some call.asked Unwritten s.no_form (λ e. absurd (cc))) refl
  may_tell NoMemory s = tells_memory (asked_some call.asked NoMemory s.no_form (λ e. absurd (cc))) refl

  -- ---- its line was told

  err_said : (stop : Stop) → Stopped stop → Appends call.err.old call.err.new (stop_line stop) → WritesErr call.told call.asked call.failed (stop_status stop) call.err.old call.err.new
  err_said Usage s h = record {
    bytes = usage_line;
    appended = h;
    nothing = λ e. absurd (omega arith);
    usage = λ e. refl;
    refusal = λ e. absurd (omega arith);
    read_fault = λ e. absurd (omega arith);
    part = λ e. absurd (omega arith);
    memory = λ e. absurd (omega arith);
  }
  err_said (Refused line) s h = record {
    bytes = line;
    appended = h;
    nothing = λ e. absurd (omega arith);
    usage = λ e. absurd (omega arith);
    refusal = λ e. s.cause;
    read_fault = λ e. absurd (omega arith);
    part = λ e. absurd (omega arith);
    memory = λ e. absurd (omega arith);
  }
  err_said (Unread line) s h = record {
    bytes = line;
    appended = h;
    nothing = λ e. absurd (omega arith);
    usage = λ e. absurd (omega arith);
    refusal = λ e. absurd (omega arith);
    read_fault = λ e. s.cause.2;
    part = λ e. absurd (omega arith);
    memory = λ e. absurd (omega arith);
  }
  err_said Unwritten s h = record {
    bytes = stop_line Unwritten;
    appended = h;
    nothing = λ e. absurd (omega arith);
    usage = λ e. absurd (omega arith);
    refusal = λ e. absurd (omega arith);
    read_fault = λ e. absurd (omega arith);
    part = λ e. ([], (let P : List ℕ → Type 0 = MayTell call.told call.asked call.failed in subst P (sym (append-nil (stop_line Unwritten))) (may_tell Unwritten s)));
    memory = λ e. absurd (omega arith);
  }
  err_said NoMemory s h = record {
    bytes = stop_line NoMemory;
    appended = h;
    nothing = λ e. absurd (omega arith);
    usage = λ e. absurd (omega arith);
    refusal = λ e. absurd (omega arith);
    read_fault = λ e. absurd (omega arith);
    part = λ e. absurd (omega arith);
    memory = λ e. refl;
  }

  answers_said : (stop : Stop) → Stopped stop → Appends call.err.old call.err.new (stop_line stop) → Answers call (stop_status stop)
  answers_said Usage s h = record {
    range = omega arith;
    usage_only = λ e. s.cause;
    usage = λ e. inl refl;
    usage_alone = λ e. (Appends-same s.out.appended (s.out.nothing (omega arith) (omega arith)), AppendsPrefix-whole h);
    read_fault = λ e. absurd (omega arith);
    write_fault = λ e. absurd (omega arith);
    memory = λ e. absurd (omega arith);
    complete = λ some x y z. absurd (never_none call.asked s.cause some);
    out = s.out;
    err = err_said Usage s h;
    noninterference = λ e. absurd (omega arith);
  }
  answers_said (Refused line) s h = record {
    range = omega arith;
    usage_only = λ e. absurd (omega arith);
    usage = λ e. absurd (let is = s.no_form e in cc);
    usage_alone = λ e. absurd (let is = s.no_form e in cc);
    read_fault = λ e. absurd (omega arith);
    write_fault = λ e. absurd (omega arith);
    memory = λ e. absurd (omega arith);
    complete = λ some x y z. inr (inl refl);
    out = s.out;
    err = err_said (Refused line) s h;
    noninterference = λ e. absurd (omega arith);
  }
  answers_said (Unread line) s h = record {
    range = omega arith;
    usage_only = λ e. absurd (omega arith);
    usage = λ e. absurd (let is = s.no_form e in cc);
    usage_alone = λ e. absurd (let is = s.no_form e in cc);
    read_fault = λ e. (s.cause.0, s.cause.1);
    write_fault = λ e. absurd (omega arith);
    memory = λ e. absurd (omega arith);
    complete = λ some x y z. absurd (x s.cause.0);
    out = s.out;
    err = err_said (Unread line) s h;
    noninterference = λ e. absurd (omega arith);
  }
  answers_said Unwritten s h = record {
    range = omega arith;
    usage_only = λ e. absurd (omega arith);
    usage = λ e. absurd (let is = s.no_form e in cc);
    usage_alone = λ e. absurd (let is = s.no_form e in cc);
    read_fault = λ e. absurd (omega arith);
    write_fault = λ e. inl s.cause;
    memory = λ e. absurd (omega arith);
    complete = λ some x y z. absurd (y s.cause);
    out = s.out;
    err = err_said Unwritten s h;
    noninterference = λ e. absurd (omega arith);
  }
  answers_said NoMemory s h = record {
    range = omega arith;
    usage_only = λ e. absurd (omega arith);
    usage = λ e. absurd (let is = s.no_form e in cc);
    usage_alone = λ e. absurd (let is = s.no_form e in cc);
    read_fault = λ e. absurd (omega arith);
    write_fault = λ e. absurd (omega arith);
    memory = λ e. asked_some call.asked NoMemory s.no_form (λ f. absurd (cc));
    complete = λ some x y z. inr (inr refl);
    out = s.out;
    err = err_said NoMemory s h;
    noninterference = λ e. absurd (omega arith);
  }

  -- ---- err failed to take its line

  begun : (stop : Stop) (s : Stopped stop) → IsBeginning call.told call.asked s.out.bytes
  begun Usage s = inl (s.out.nothing (omega arith) (omega arith))
  begun (Refused line) s = inl (s.out.nothing (omega arith) (omega arith))
  begun (Unread line) s = inl (s.out.nothing (omega arith) (omega arith))
  begun Unwritten s = s.out.part (omega arith)
  begun NoMemory s = s.out.part (omega arith)

  -- words of no form leave nothing in out, and no more than the usage line in err
  alone : (stop : Stop) → Stopped stop → AppendsPrefix call.err.old call.err.new (stop_line stop) → stop ≡ Usage → Appends call.out.old call.out.new [] × AppendsPrefix call.err.old call.err.new usage_line
  alone Usage s h e = (Appends-same s.out.appended (s.out.nothing (omega arith) (omega arith)), h)
  alone (Refused line) s h e = absurd (cc)
  alone (Unread line) s h e = absurd (cc)
  alone Unwritten s h e = absurd (cc)
  alone NoMemory s h e = absurd (cc)

  answers_unsaid : (stop : Stop) → Stopped stop → HasFault call.err_faults → AppendsPrefix call.err.old call.err.new (stop_line stop) → Answers call 4
  answers_unsaid stop s fault h = record {
    range = omega arith;
    usage_only = λ e. absurd (omega arith);
    usage = λ e. inr (refl, fault);
    usage_alone = λ e. alone stop s h (s.no_form e);
    read_fault = λ e. absurd (omega arith);
    write_fault = λ e. inr fault;
    memory = λ e. absurd (omega arith);
    complete = λ some x y z. absurd (z fault);
    out = record {
      bytes = s.out.bytes;
      appended = s.out.appended;
      whole = λ e. absurd (omega arith);
      nothing = λ a b. absurd (omega arith);
      part = λ a. begun stop s;
      whole_texts = λ e f. absurd (omega arith);
    };
    err = record {
      bytes = h.first;
      appended = h.appended;
      nothing = λ e. absurd (omega arith);
      usage = λ e. absurd (omega arith);
      refusal = λ e. absurd (omega arith);
      read_fault = λ e. absurd (omega arith);
      part = λ e. (h.rest, (let P : List ℕ → Type 0 = MayTell call.told call.asked call.failed in subst P (sym h.is_beginning) (may_tell stop s)));
      memory = λ e. absurd (omega arith);
    };
    noninterference = λ e. absurd (omega arith);
  }

  says : (stop : Stop) (status : ℕ) → Stopped stop → Says (stop_line stop) (stop_status stop) (HasFault call.err_faults) call.err.old call.err.new status → Answers call status
  says stop status s (said e h) = let P : ℕ → Type 0 = Answers call in subst P (sym e) (answers_said stop s h)
  says stop status s (unsaid e fault h) = let P : ℕ → Type 0 = Answers call in subst P (sym e) (answers_unsaid stop s fault h)

-- a call that stops answers as it should, once it has told so
pub answers_stopped : {A : Type 0} (call : Call) (end : Result A Stop) (stop : Stop) (status : ℕ) → end ≡ Err stop → WritesOut call.told call.asked (end_status end) call.out.old call.out.new → IfErr end (HasCause call.told call.asked call.failed (HasFault call.store_faults) (HasFault call.out_faults)) → (call.asked ≡ None → end ≡ Err Usage)
    → Says (stop_line stop) (stop_status stop) (HasFault call.err_faults) call.err.old call.err.new status → Answers call status
answers_stopped call (Ok done) stop status is out cause no_form told = absurd (cc)
answers_stopped call (Err other) stop status is out cause no_form told =
    let same : other ≡ stop = cc in
    let P : Stop → Type 0 = λ t. WritesOut call.told call.asked (stop_status t) call.out.old call.out.new in
    let Q : Stop → Type 0 = HasCause call.told call.asked call.failed (HasFault call.store_faults) (HasFault call.out_faults) in
    says call stop status (record { out = subst P same out; cause = subst Q same cause; no_form = λ e. let usage = no_form e in cc }) told

mod SameAct

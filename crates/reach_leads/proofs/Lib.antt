mod ForgetLaws

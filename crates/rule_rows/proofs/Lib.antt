mod OneException
